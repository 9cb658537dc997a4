-- The refused lines and their templates.
use Rattle.std.proofs.Common.{◌≡◌, ℕ, ◌+◌, ◌*◌, ◌<◌, ◌^◌, ℤ, pos, List, [], ◌∷◌, ◌++◌, get_or, drop, refl, sym, ap, ◌∙◌, arith, append_assoc}
use Rattle.std.specs.Prelude.{codes}
use Rattle.std.proofs.lemmas.List.{append_cancel_right}
use Rattle.std.specs.Fmt.{decimal, signed_decimal}
use Rattle.spec_space.specs.declared.Vector.{Vector}
use Rattle.spec_refusal.specs.declared.Refusal.{Refusal}
use Rattle.spec_refusal.specs.declared.Refusal.TheVariants.{Unsupported, Curved, BadAttribute, Dangling, NumberTooLarge, BadDirection, ScaleOutOfRange, TooDeep, ElementTooLarge, CornerTooFar, OpenShell, PlaneTooLarge, Unbounded}
use Rattle.spec_page.specs.Refusals.{refusal_text, spaced_corner}
use Rattle.spec_check.specs.Limits.{IsShort}
use Rattle.obj_lines.specs.PageLines.{PageLine, line_text, IsLineWithin, Refused}
use Rattle.obj_lines.specs.Templates.{filled_from, filled}
use Rattle.obj_lines.proofs.Digits.{decimal_digits, decimal_one, one_split}
use Rattle.obj_lines.proofs.Forms.{IsForm, no_words, more_words, word_of_size, word_of}
use Rattle.obj_lines.proofs.Shapes.{tag_of, same_tag, one_vector, vector_numbers}

-- ---- the kind of a refusal by its code
abbrev pub code_of : Refusal → ℕ
code_of (Unsupported at) = 12576
code_of (Curved at) = 12832
code_of (BadAttribute at n) = 13088
code_of (Dangling at n) = 13344
code_of (NumberTooLarge at) = 13600
code_of (BadDirection at) = 13856
code_of (ScaleOutOfRange at) = 14112
code_of (TooDeep at) = 14368
code_of (ElementTooLarge n) = 14624
code_of (CornerTooFar at) = 12592
code_of (OpenShell at u v) = 12593
code_of (PlaneTooLarge at) = 12594
code_of (Unbounded at) = 12595

code : List ℕ → ℕ
code t = 256 * get_or t 1 0 + get_or t 2 0

code_is : (why : Refusal) → code (refusal_text why) ≡ code_of why
unfolding code
code_is (Unsupported at) = refl
code_is (Curved at) = refl
code_is (BadAttribute at n) = refl
code_is (Dangling at n) = refl
code_is (NumberTooLarge at) = refl
code_is (BadDirection at) = refl
code_is (ScaleOutOfRange at) = refl
code_is (TooDeep at) = refl
code_is (ElementTooLarge n) = refl
code_is (CornerTooFar at) = refl
code_is (OpenShell at u v) = refl
code_is (PlaneTooLarge at) = refl
code_is (Unbounded at) = refl

-- ---- a refused line
one_tail : (x y : ℕ) (xs ys : List ℕ) → x ∷ xs ≡ y ∷ ys → xs ≡ ys
one_tail x y xs ys e = cc

without_feed : (xs ys : List ℕ) → xs ++ 10 ∷ [] ≡ ys ++ 10 ∷ [] → xs ≡ ys
without_feed xs ys e = append_cancel_right xs ys (10 ∷ []) e

line_parts : (m n : ℕ) (other why : Refusal) → IsShort m → IsShort n → line_text (Refused m other) ≡ line_text (Refused n why) → (m ≡ n) × (refusal_text other ≡ refusal_text why)
line_parts m n other why h k e =
    let behind : (decimal m ++ 32 ∷ (refusal_text other ++ 10 ∷ [])) ≡ (decimal n ++ 32 ∷ (refusal_text why ++ 10 ∷ [])) = ap (drop 9) e in
    let small_m : m < 2 ^ 128 = omega arith in
    let small_n : n < 2 ^ 128 = omega arith in
    let split = one_split (decimal m) (decimal n) (32 ∷ (refusal_text other ++ 10 ∷ [])) (32 ∷ (refusal_text why ++ 10 ∷ [])) (decimal_digits m small_m) (decimal_digits n small_n) refl refl behind in
    (decimal_one m n small_m small_n split.0, without_feed (refusal_text other) (refusal_text why) (one_tail 32 32 (refusal_text other ++ 10 ∷ []) (refusal_text why ++ 10 ∷ []) split.1))

only_refused : (line : PageLine) → IsLineWithin line → (n : ℕ) (why : Refusal) → IsShort n → line_text line ≡ line_text (Refused n why) → (m : ℕ) × (other : Refusal) × (line ≡ Refused m other) × (code_of other ≡ code_of why)
only_refused line within n why short e = by line within e (same_tag line (Refused n why) e)
  where
    by : (line : PageLine) → IsLineWithin line → line_text line ≡ line_text (Refused n why) → tag_of line ≡ 370 → (m : ℕ) × (other : Refusal) × (line ≡ Refused m other) × (code_of other ≡ code_of why)
    by (Refused m other) h e t = (m, other, refl, sym (code_is other) ∙ ap code (line_parts m n other why h.0 short e).1 ∙ code_is why)
    by _ h e t = absurd (omega arith)

link : Vector → List ℕ → List ℕ
link v rest = 32 ∷ (signed_decimal v.x ++ 44 ∷ (signed_decimal v.y ++ 44 ∷ (signed_decimal v.z ++ rest)))

link_line : (v : Vector) (more : List ℕ) → spaced_corner v ++ more ≡ link v more
unfolding link
link_line v more = simp append_assoc

link_more : (v : Vector) (rest more : List ℕ) → link v rest ++ more ≡ link v (rest ++ more)
unfolding link
link_more v rest more = simp append_assoc

grouped : (n a f t e : List ℕ) → (((n ++ a) ++ f) ++ t) ++ e ≡ n ++ (a ++ (f ++ (t ++ e)))
grouped n a f t e = simp append_assoc

pushed : (h d n a l e : List ℕ) → (h ++ (d ++ 32 ∷ (n ++ (a ++ l)))) ++ e ≡ h ++ (d ++ 32 ∷ (n ++ (a ++ (l ++ e))))
pushed h d n a l e = simp append_assoc

two_naturals : (a b c d : ℕ) → pos a ∷ pos b ∷ [] ≡ pos c ∷ pos d ∷ [] → (a ≡ c) × (b ≡ d)
two_naturals a b c d e = (cc, cc)

three_naturals : (a b c d e f : ℕ) → pos a ∷ pos b ∷ pos c ∷ [] ≡ pos d ∷ pos e ∷ pos f ∷ [] → (a ≡ d) × (b ≡ e) × (c ≡ f)
three_naturals a b c d e f p = (cc, cc, cc)

one_pair : (a b : ℕ × ℕ) → pos a.0 ∷ pos a.1 ∷ [] ≡ pos b.0 ∷ pos b.1 ∷ [] → a ≡ b
one_pair a b e = let s = two_naturals a.0 a.1 b.0 b.1 e in λ i. (s.0 i, s.1 i)

one_triple : (a b : ℕ × ℕ × ℕ) → pos a.0 ∷ pos a.1 ∷ pos a.2 ∷ [] ≡ pos b.0 ∷ pos b.1 ∷ pos b.2 ∷ [] → a ≡ b
one_triple a b e = let s = three_naturals a.0 a.1 a.2 b.0 b.1 b.2 e in λ i. (s.0 i, s.1 i, s.2 i)

abbrev pub open_numbers : ℕ × ℕ × Vector × Vector → List ℤ
open_numbers a = pos a.0 ∷ pos a.1 ∷ vector_numbers a.2 (vector_numbers a.3 [])

open_filled : (a : ℕ × ℕ × Vector × Vector) → filled (codes "#refused @ E11 OpenShell #@ @,@,@ @,@,@") (open_numbers a)
    ≡ codes "#refused " ++ (decimal a.0 ++ 32 ∷ (codes "E11 OpenShell #" ++ (decimal a.1 ++ link a.2 (link a.3 []))))
unfolding filled_from link
open_filled a = refl

eight : (a b : ℕ) (x y z u v w : ℤ) (c d : ℕ) (p q r s t o : ℤ) → pos a ∷ pos b ∷ x ∷ y ∷ z ∷ u ∷ v ∷ w ∷ [] ≡ pos c ∷ pos d ∷ p ∷ q ∷ r ∷ s ∷ t ∷ o ∷ []
    → (a ≡ c) × (b ≡ d) × (x ∷ y ∷ z ∷ [] ≡ p ∷ q ∷ r ∷ []) × (u ∷ v ∷ w ∷ [] ≡ s ∷ t ∷ o ∷ [])
eight a b x y z u v w c d p q r s t o e = (cc, cc, cc, cc)

one_open : (a b : ℕ × ℕ × Vector × Vector) → open_numbers a ≡ open_numbers b → a ≡ b
one_open a b e =
    let s = eight a.0 a.1 a.2.x a.2.y a.2.z a.3.x a.3.y a.3.z b.0 b.1 b.2.x b.2.y b.2.z b.3.x b.3.y b.3.z e in
    let from = one_vector a.2 b.2 s.2 in
    let to = one_vector a.3 b.3 s.3 in
    λ i. (s.0 i, s.1 i, from i, to i)

only_unsupported : (line : PageLine) → IsLineWithin line → (a : ℕ × ℕ) → IsLineWithin (Refused a.0 (Unsupported a.1)) → line_text line ≡ line_text (Refused a.0 (Unsupported a.1)) → (b : ℕ × ℕ) × (line ≡ Refused b.0 (Unsupported b.1))
only_unsupported line within a h e = let r = only_refused line within a.0 (Unsupported a.1) h.0 e in by r.0 r.1 r.2 r.3
  where
    by : (m : ℕ) (other : Refusal) → line ≡ Refused m other → code_of other ≡ 12576 → (b : ℕ × ℕ) × (line ≡ Refused b.0 (Unsupported b.1))
    by m (Unsupported at) is c = ((m, at), is)
    by m _ is c = absurd (omega arith)

unsupported_text : (a : ℕ × ℕ) → line_text (Refused a.0 (Unsupported a.1)) ≡ filled (codes "#refused @ E1 Unsupported #@") (pos a.0 ∷ pos a.1 ∷ []) ++ 10 ∷ []
unfolding filled_from
unsupported_text a = simp append_assoc

pub unsupported_form : IsForm (λ (a : ℕ × ℕ). Refused a.0 (Unsupported a.1)) (codes "#refused @ E1 Unsupported #@") 2 (λ (a : ℕ × ℕ). pos a.0 ∷ pos a.1 ∷ [])
unsupported_form = record {
  text = unsupported_text;
  words = λ a h. more_words 1 (pos a.0) (pos a.1 ∷ []) (word_of a.0 (omega (arith, h.0))) (more_words 0 (pos a.1) ([]) (word_of a.1 (omega (arith, h.1))) (no_words));
  back = λ a b e. one_pair a b e;
  only = λ line within a h e. only_unsupported line within a h e;
}

only_curved : (line : PageLine) → IsLineWithin line → (a : ℕ × ℕ) → IsLineWithin (Refused a.0 (Curved a.1)) → line_text line ≡ line_text (Refused a.0 (Curved a.1)) → (b : ℕ × ℕ) × (line ≡ Refused b.0 (Curved b.1))
only_curved line within a h e = let r = only_refused line within a.0 (Curved a.1) h.0 e in by r.0 r.1 r.2 r.3
  where
    by : (m : ℕ) (other : Refusal) → line ≡ Refused m other → code_of other ≡ 12832 → (b : ℕ × ℕ) × (line ≡ Refused b.0 (Curved b.1))
    by m (Curved at) is c = ((m, at), is)
    by m _ is c = absurd (omega arith)

curved_text : (a : ℕ × ℕ) → line_text (Refused a.0 (Curved a.1)) ≡ filled (codes "#refused @ E2 Curved #@") (pos a.0 ∷ pos a.1 ∷ []) ++ 10 ∷ []
unfolding filled_from
curved_text a = simp append_assoc

pub curved_form : IsForm (λ (a : ℕ × ℕ). Refused a.0 (Curved a.1)) (codes "#refused @ E2 Curved #@") 2 (λ (a : ℕ × ℕ). pos a.0 ∷ pos a.1 ∷ [])
curved_form = record {
  text = curved_text;
  words = λ a h. more_words 1 (pos a.0) (pos a.1 ∷ []) (word_of a.0 (omega (arith, h.0))) (more_words 0 (pos a.1) ([]) (word_of a.1 (omega (arith, h.1))) (no_words));
  back = λ a b e. one_pair a b e;
  only = λ line within a h e. only_curved line within a h e;
}

only_bad_attribute : (line : PageLine) → IsLineWithin line → (a : ℕ × ℕ × ℕ) → IsLineWithin (Refused a.0 (BadAttribute a.1 a.2)) → line_text line ≡ line_text (Refused a.0 (BadAttribute a.1 a.2)) → (b : ℕ × ℕ × ℕ) × (line ≡ Refused b.0 (BadAttribute b.1 b.2))
only_bad_attribute line within a h e = let r = only_refused line within a.0 (BadAttribute a.1 a.2) h.0 e in by r.0 r.1 r.2 r.3
  where
    by : (m : ℕ) (other : Refusal) → line ≡ Refused m other → code_of other ≡ 13088 → (b : ℕ × ℕ × ℕ) × (line ≡ Refused b.0 (BadAttribute b.1 b.2))
    by m (BadAttribute at n) is c = ((m, at, n), is)
    by m _ is c = absurd (omega arith)

bad_attribute_text : (a : ℕ × ℕ × ℕ) → line_text (Refused a.0 (BadAttribute a.1 a.2)) ≡ filled (codes "#refused @ E3 BadAttribute #@ @") (pos a.0 ∷ pos a.1 ∷ pos a.2 ∷ []) ++ 10 ∷ []
unfolding filled_from
bad_attribute_text a = simp append_assoc

pub bad_attribute_form : IsForm (λ (a : ℕ × ℕ × ℕ). Refused a.0 (BadAttribute a.1 a.2)) (codes "#refused @ E3 BadAttribute #@ @") 3 (λ (a : ℕ × ℕ × ℕ). pos a.0 ∷ pos a.1 ∷ pos a.2 ∷ [])
bad_attribute_form = record {
  text = bad_attribute_text;
  words = λ a h. more_words 2 (pos a.0) (pos a.1 ∷ pos a.2 ∷ []) (word_of a.0 (omega (arith, h.0))) (more_words 1 (pos a.1) (pos a.2 ∷ []) (word_of a.1 (omega (arith, h.1.0))) (more_words 0 (pos a.2) ([]) (word_of a.2 (omega (arith, h.1.1))) (no_words)));
  back = λ a b e. one_triple a b e;
  only = λ line within a h e. only_bad_attribute line within a h e;
}

only_dangling : (line : PageLine) → IsLineWithin line → (a : ℕ × ℕ × ℕ) → IsLineWithin (Refused a.0 (Dangling a.1 a.2)) → line_text line ≡ line_text (Refused a.0 (Dangling a.1 a.2)) → (b : ℕ × ℕ × ℕ) × (line ≡ Refused b.0 (Dangling b.1 b.2))
only_dangling line within a h e = let r = only_refused line within a.0 (Dangling a.1 a.2) h.0 e in by r.0 r.1 r.2 r.3
  where
    by : (m : ℕ) (other : Refusal) → line ≡ Refused m other → code_of other ≡ 13344 → (b : ℕ × ℕ × ℕ) × (line ≡ Refused b.0 (Dangling b.1 b.2))
    by m (Dangling at n) is c = ((m, at, n), is)
    by m _ is c = absurd (omega arith)

dangling_text : (a : ℕ × ℕ × ℕ) → line_text (Refused a.0 (Dangling a.1 a.2)) ≡ filled (codes "#refused @ E4 Dangling #@ @") (pos a.0 ∷ pos a.1 ∷ pos a.2 ∷ []) ++ 10 ∷ []
unfolding filled_from
dangling_text a = simp append_assoc

pub dangling_form : IsForm (λ (a : ℕ × ℕ × ℕ). Refused a.0 (Dangling a.1 a.2)) (codes "#refused @ E4 Dangling #@ @") 3 (λ (a : ℕ × ℕ × ℕ). pos a.0 ∷ pos a.1 ∷ pos a.2 ∷ [])
dangling_form = record {
  text = dangling_text;
  words = λ a h. more_words 2 (pos a.0) (pos a.1 ∷ pos a.2 ∷ []) (word_of a.0 (omega (arith, h.0))) (more_words 1 (pos a.1) (pos a.2 ∷ []) (word_of a.1 (omega (arith, h.1.0))) (more_words 0 (pos a.2) ([]) (word_of a.2 (omega (arith, h.1.1))) (no_words)));
  back = λ a b e. one_triple a b e;
  only = λ line within a h e. only_dangling line within a h e;
}

only_number_too_large : (line : PageLine) → IsLineWithin line → (a : ℕ × ℕ) → IsLineWithin (Refused a.0 (NumberTooLarge a.1)) → line_text line ≡ line_text (Refused a.0 (NumberTooLarge a.1)) → (b : ℕ × ℕ) × (line ≡ Refused b.0 (NumberTooLarge b.1))
only_number_too_large line within a h e = let r = only_refused line within a.0 (NumberTooLarge a.1) h.0 e in by r.0 r.1 r.2 r.3
  where
    by : (m : ℕ) (other : Refusal) → line ≡ Refused m other → code_of other ≡ 13600 → (b : ℕ × ℕ) × (line ≡ Refused b.0 (NumberTooLarge b.1))
    by m (NumberTooLarge at) is c = ((m, at), is)
    by m _ is c = absurd (omega arith)

number_too_large_text : (a : ℕ × ℕ) → line_text (Refused a.0 (NumberTooLarge a.1)) ≡ filled (codes "#refused @ E5 NumberTooLarge #@") (pos a.0 ∷ pos a.1 ∷ []) ++ 10 ∷ []
unfolding filled_from
number_too_large_text a = simp append_assoc

pub number_too_large_form : IsForm (λ (a : ℕ × ℕ). Refused a.0 (NumberTooLarge a.1)) (codes "#refused @ E5 NumberTooLarge #@") 2 (λ (a : ℕ × ℕ). pos a.0 ∷ pos a.1 ∷ [])
number_too_large_form = record {
  text = number_too_large_text;
  words = λ a h. more_words 1 (pos a.0) (pos a.1 ∷ []) (word_of a.0 (omega (arith, h.0))) (more_words 0 (pos a.1) ([]) (word_of a.1 (omega (arith, h.1))) (no_words));
  back = λ a b e. one_pair a b e;
  only = λ line within a h e. only_number_too_large line within a h e;
}

only_bad_direction : (line : PageLine) → IsLineWithin line → (a : ℕ × ℕ) → IsLineWithin (Refused a.0 (BadDirection a.1)) → line_text line ≡ line_text (Refused a.0 (BadDirection a.1)) → (b : ℕ × ℕ) × (line ≡ Refused b.0 (BadDirection b.1))
only_bad_direction line within a h e = let r = only_refused line within a.0 (BadDirection a.1) h.0 e in by r.0 r.1 r.2 r.3
  where
    by : (m : ℕ) (other : Refusal) → line ≡ Refused m other → code_of other ≡ 13856 → (b : ℕ × ℕ) × (line ≡ Refused b.0 (BadDirection b.1))
    by m (BadDirection at) is c = ((m, at), is)
    by m _ is c = absurd (omega arith)

bad_direction_text : (a : ℕ × ℕ) → line_text (Refused a.0 (BadDirection a.1)) ≡ filled (codes "#refused @ E6 BadDirection #@") (pos a.0 ∷ pos a.1 ∷ []) ++ 10 ∷ []
unfolding filled_from
bad_direction_text a = simp append_assoc

pub bad_direction_form : IsForm (λ (a : ℕ × ℕ). Refused a.0 (BadDirection a.1)) (codes "#refused @ E6 BadDirection #@") 2 (λ (a : ℕ × ℕ). pos a.0 ∷ pos a.1 ∷ [])
bad_direction_form = record {
  text = bad_direction_text;
  words = λ a h. more_words 1 (pos a.0) (pos a.1 ∷ []) (word_of a.0 (omega (arith, h.0))) (more_words 0 (pos a.1) ([]) (word_of a.1 (omega (arith, h.1))) (no_words));
  back = λ a b e. one_pair a b e;
  only = λ line within a h e. only_bad_direction line within a h e;
}

only_scale_out_of_range : (line : PageLine) → IsLineWithin line → (a : ℕ × ℕ) → IsLineWithin (Refused a.0 (ScaleOutOfRange a.1)) → line_text line ≡ line_text (Refused a.0 (ScaleOutOfRange a.1)) → (b : ℕ × ℕ) × (line ≡ Refused b.0 (ScaleOutOfRange b.1))
only_scale_out_of_range line within a h e = let r = only_refused line within a.0 (ScaleOutOfRange a.1) h.0 e in by r.0 r.1 r.2 r.3
  where
    by : (m : ℕ) (other : Refusal) → line ≡ Refused m other → code_of other ≡ 14112 → (b : ℕ × ℕ) × (line ≡ Refused b.0 (ScaleOutOfRange b.1))
    by m (ScaleOutOfRange at) is c = ((m, at), is)
    by m _ is c = absurd (omega arith)

scale_out_of_range_text : (a : ℕ × ℕ) → line_text (Refused a.0 (ScaleOutOfRange a.1)) ≡ filled (codes "#refused @ E7 ScaleOutOfRange #@") (pos a.0 ∷ pos a.1 ∷ []) ++ 10 ∷ []
unfolding filled_from
scale_out_of_range_text a = simp append_assoc

pub scale_out_of_range_form : IsForm (λ (a : ℕ × ℕ). Refused a.0 (ScaleOutOfRange a.1)) (codes "#refused @ E7 ScaleOutOfRange #@") 2 (λ (a : ℕ × ℕ). pos a.0 ∷ pos a.1 ∷ [])
scale_out_of_range_form = record {
  text = scale_out_of_range_text;
  words = λ a h. more_words 1 (pos a.0) (pos a.1 ∷ []) (word_of a.0 (omega (arith, h.0))) (more_words 0 (pos a.1) ([]) (word_of a.1 (omega (arith, h.1))) (no_words));
  back = λ a b e. one_pair a b e;
  only = λ line within a h e. only_scale_out_of_range line within a h e;
}

only_too_deep : (line : PageLine) → IsLineWithin line → (a : ℕ × ℕ) → IsLineWithin (Refused a.0 (TooDeep a.1)) → line_text line ≡ line_text (Refused a.0 (TooDeep a.1)) → (b : ℕ × ℕ) × (line ≡ Refused b.0 (TooDeep b.1))
only_too_deep line within a h e = let r = only_refused line within a.0 (TooDeep a.1) h.0 e in by r.0 r.1 r.2 r.3
  where
    by : (m : ℕ) (other : Refusal) → line ≡ Refused m other → code_of other ≡ 14368 → (b : ℕ × ℕ) × (line ≡ Refused b.0 (TooDeep b.1))
    by m (TooDeep at) is c = ((m, at), is)
    by m _ is c = absurd (omega arith)

too_deep_text : (a : ℕ × ℕ) → line_text (Refused a.0 (TooDeep a.1)) ≡ filled (codes "#refused @ E8 TooDeep #@") (pos a.0 ∷ pos a.1 ∷ []) ++ 10 ∷ []
unfolding filled_from
too_deep_text a = simp append_assoc

pub too_deep_form : IsForm (λ (a : ℕ × ℕ). Refused a.0 (TooDeep a.1)) (codes "#refused @ E8 TooDeep #@") 2 (λ (a : ℕ × ℕ). pos a.0 ∷ pos a.1 ∷ [])
too_deep_form = record {
  text = too_deep_text;
  words = λ a h. more_words 1 (pos a.0) (pos a.1 ∷ []) (word_of a.0 (omega (arith, h.0))) (more_words 0 (pos a.1) ([]) (word_of a.1 (omega (arith, h.1))) (no_words));
  back = λ a b e. one_pair a b e;
  only = λ line within a h e. only_too_deep line within a h e;
}

only_element_too_large : (line : PageLine) → IsLineWithin line → (a : ℕ × ℕ) → IsLineWithin (Refused a.0 (ElementTooLarge a.1)) → line_text line ≡ line_text (Refused a.0 (ElementTooLarge a.1)) → (b : ℕ × ℕ) × (line ≡ Refused b.0 (ElementTooLarge b.1))
only_element_too_large line within a h e = let r = only_refused line within a.0 (ElementTooLarge a.1) h.0 e in by r.0 r.1 r.2 r.3
  where
    by : (m : ℕ) (other : Refusal) → line ≡ Refused m other → code_of other ≡ 14624 → (b : ℕ × ℕ) × (line ≡ Refused b.0 (ElementTooLarge b.1))
    by m (ElementTooLarge at) is c = ((m, at), is)
    by m _ is c = absurd (omega arith)

element_too_large_text : (a : ℕ × ℕ) → line_text (Refused a.0 (ElementTooLarge a.1)) ≡ filled (codes "#refused @ E9 ElementTooLarge @") (pos a.0 ∷ pos a.1 ∷ []) ++ 10 ∷ []
unfolding filled_from
element_too_large_text a = simp append_assoc

pub element_too_large_form : IsForm (λ (a : ℕ × ℕ). Refused a.0 (ElementTooLarge a.1)) (codes "#refused @ E9 ElementTooLarge @") 2 (λ (a : ℕ × ℕ). pos a.0 ∷ pos a.1 ∷ [])
element_too_large_form = record {
  text = element_too_large_text;
  words = λ a h. more_words 1 (pos a.0) (pos a.1 ∷ []) (word_of a.0 (omega (arith, h.0))) (more_words 0 (pos a.1) ([]) (word_of a.1 (omega (arith, h.1))) (no_words));
  back = λ a b e. one_pair a b e;
  only = λ line within a h e. only_element_too_large line within a h e;
}

only_corner_too_far : (line : PageLine) → IsLineWithin line → (a : ℕ × ℕ) → IsLineWithin (Refused a.0 (CornerTooFar a.1)) → line_text line ≡ line_text (Refused a.0 (CornerTooFar a.1)) → (b : ℕ × ℕ) × (line ≡ Refused b.0 (CornerTooFar b.1))
only_corner_too_far line within a h e = let r = only_refused line within a.0 (CornerTooFar a.1) h.0 e in by r.0 r.1 r.2 r.3
  where
    by : (m : ℕ) (other : Refusal) → line ≡ Refused m other → code_of other ≡ 12592 → (b : ℕ × ℕ) × (line ≡ Refused b.0 (CornerTooFar b.1))
    by m (CornerTooFar at) is c = ((m, at), is)
    by m _ is c = absurd (omega arith)

corner_too_far_text : (a : ℕ × ℕ) → line_text (Refused a.0 (CornerTooFar a.1)) ≡ filled (codes "#refused @ E10 CornerTooFar #@") (pos a.0 ∷ pos a.1 ∷ []) ++ 10 ∷ []
unfolding filled_from
corner_too_far_text a = simp append_assoc

pub corner_too_far_form : IsForm (λ (a : ℕ × ℕ). Refused a.0 (CornerTooFar a.1)) (codes "#refused @ E10 CornerTooFar #@") 2 (λ (a : ℕ × ℕ). pos a.0 ∷ pos a.1 ∷ [])
corner_too_far_form = record {
  text = corner_too_far_text;
  words = λ a h. more_words 1 (pos a.0) (pos a.1 ∷ []) (word_of a.0 (omega (arith, h.0))) (more_words 0 (pos a.1) ([]) (word_of a.1 (omega (arith, h.1))) (no_words));
  back = λ a b e. one_pair a b e;
  only = λ line within a h e. only_corner_too_far line within a h e;
}

only_open_shell : (line : PageLine) → IsLineWithin line → (a : ℕ × ℕ × Vector × Vector) → IsLineWithin (Refused a.0 (OpenShell a.1 a.2 a.3)) → line_text line ≡ line_text (Refused a.0 (OpenShell a.1 a.2 a.3)) → (b : ℕ × ℕ × Vector × Vector) × (line ≡ Refused b.0 (OpenShell b.1 b.2 b.3))
only_open_shell line within a h e = let r = only_refused line within a.0 (OpenShell a.1 a.2 a.3) h.0 e in by r.0 r.1 r.2 r.3
  where
    by : (m : ℕ) (other : Refusal) → line ≡ Refused m other → code_of other ≡ 12593 → (b : ℕ × ℕ × Vector × Vector) × (line ≡ Refused b.0 (OpenShell b.1 b.2 b.3))
    by m (OpenShell at u w) is c = ((m, at, u, w), is)
    by m _ is c = absurd (omega arith)

open_shell_text : (a : ℕ × ℕ × Vector × Vector) → line_text (Refused a.0 (OpenShell a.1 a.2 a.3)) ≡ filled (codes "#refused @ E11 OpenShell #@ @,@,@ @,@,@") (open_numbers a) ++ 10 ∷ []
open_shell_text a =
    (append_assoc (codes "#refused ") (decimal a.0) (32 ∷ (refusal_text (OpenShell a.1 a.2 a.3) ++ 10 ∷ []))
    ∙ ap (λ t. codes "#refused " ++ (decimal a.0 ++ 32 ∷ t)) (grouped (codes "E11 OpenShell #") (decimal a.1) (spaced_corner a.2) (spaced_corner a.3) (10 ∷ [])
    ∙ ap (λ t. codes "E11 OpenShell #" ++ (decimal a.1 ++ t)) (link_line a.2 (spaced_corner a.3 ++ 10 ∷ []) ∙ ap (link a.2) (link_line a.3 (10 ∷ [])))))
    ∙ sym (ap (λ t. t ++ 10 ∷ []) (open_filled a) ∙ pushed (codes "#refused ") (decimal a.0) (codes "E11 OpenShell #") (decimal a.1) (link a.2 (link a.3 [])) (10 ∷ [])
    ∙ ap (λ t. codes "#refused " ++ (decimal a.0 ++ 32 ∷ (codes "E11 OpenShell #" ++ (decimal a.1 ++ t)))) (link_more a.2 (link a.3 []) (10 ∷ []) ∙ ap (link a.2) (link_more a.3 [] (10 ∷ []))))

pub open_shell_form : IsForm (λ (a : ℕ × ℕ × Vector × Vector). Refused a.0 (OpenShell a.1 a.2 a.3)) (codes "#refused @ E11 OpenShell #@ @,@,@ @,@,@") 8 (λ (a : ℕ × ℕ × Vector × Vector). open_numbers a)
open_shell_form = record {
  text = open_shell_text;
  words = λ a h. more_words 7 (pos a.0) (pos a.1 ∷ a.2.x ∷ a.2.y ∷ a.2.z ∷ a.3.x ∷ a.3.y ∷ a.3.z ∷ []) (word_of a.0 (omega (arith, h.0))) (more_words 6 (pos a.1) (a.2.x ∷ a.2.y ∷ a.2.z ∷ a.3.x ∷ a.3.y ∷ a.3.z ∷ []) (word_of a.1 (omega (arith, h.1.0))) (more_words 5 (a.2.x) (a.2.y ∷ a.2.z ∷ a.3.x ∷ a.3.y ∷ a.3.z ∷ []) (word_of_size a.2.x (omega (arith, h.1.1.x))) (more_words 4 (a.2.y) (a.2.z ∷ a.3.x ∷ a.3.y ∷ a.3.z ∷ []) (word_of_size a.2.y (omega (arith, h.1.1.y))) (more_words 3 (a.2.z) (a.3.x ∷ a.3.y ∷ a.3.z ∷ []) (word_of_size a.2.z (omega (arith, h.1.1.z))) (more_words 2 (a.3.x) (a.3.y ∷ a.3.z ∷ []) (word_of_size a.3.x (omega (arith, h.1.2.x))) (more_words 1 (a.3.y) (a.3.z ∷ []) (word_of_size a.3.y (omega (arith, h.1.2.y))) (more_words 0 (a.3.z) ([]) (word_of_size a.3.z (omega (arith, h.1.2.z))) (no_words))))))));
  back = λ a b e. one_open a b e;
  only = λ line within a h e. only_open_shell line within a h e;
}

only_plane_too_large : (line : PageLine) → IsLineWithin line → (a : ℕ × ℕ) → IsLineWithin (Refused a.0 (PlaneTooLarge a.1)) → line_text line ≡ line_text (Refused a.0 (PlaneTooLarge a.1)) → (b : ℕ × ℕ) × (line ≡ Refused b.0 (PlaneTooLarge b.1))
only_plane_too_large line within a h e = let r = only_refused line within a.0 (PlaneTooLarge a.1) h.0 e in by r.0 r.1 r.2 r.3
  where
    by : (m : ℕ) (other : Refusal) → line ≡ Refused m other → code_of other ≡ 12594 → (b : ℕ × ℕ) × (line ≡ Refused b.0 (PlaneTooLarge b.1))
    by m (PlaneTooLarge at) is c = ((m, at), is)
    by m _ is c = absurd (omega arith)

plane_too_large_text : (a : ℕ × ℕ) → line_text (Refused a.0 (PlaneTooLarge a.1)) ≡ filled (codes "#refused @ E12 PlaneTooLarge #@") (pos a.0 ∷ pos a.1 ∷ []) ++ 10 ∷ []
unfolding filled_from
plane_too_large_text a = simp append_assoc

pub plane_too_large_form : IsForm (λ (a : ℕ × ℕ). Refused a.0 (PlaneTooLarge a.1)) (codes "#refused @ E12 PlaneTooLarge #@") 2 (λ (a : ℕ × ℕ). pos a.0 ∷ pos a.1 ∷ [])
plane_too_large_form = record {
  text = plane_too_large_text;
  words = λ a h. more_words 1 (pos a.0) (pos a.1 ∷ []) (word_of a.0 (omega (arith, h.0))) (more_words 0 (pos a.1) ([]) (word_of a.1 (omega (arith, h.1))) (no_words));
  back = λ a b e. one_pair a b e;
  only = λ line within a h e. only_plane_too_large line within a h e;
}

only_unbounded : (line : PageLine) → IsLineWithin line → (a : ℕ × ℕ) → IsLineWithin (Refused a.0 (Unbounded a.1)) → line_text line ≡ line_text (Refused a.0 (Unbounded a.1)) → (b : ℕ × ℕ) × (line ≡ Refused b.0 (Unbounded b.1))
only_unbounded line within a h e = let r = only_refused line within a.0 (Unbounded a.1) h.0 e in by r.0 r.1 r.2 r.3
  where
    by : (m : ℕ) (other : Refusal) → line ≡ Refused m other → code_of other ≡ 12595 → (b : ℕ × ℕ) × (line ≡ Refused b.0 (Unbounded b.1))
    by m (Unbounded at) is c = ((m, at), is)
    by m _ is c = absurd (omega arith)

unbounded_text : (a : ℕ × ℕ) → line_text (Refused a.0 (Unbounded a.1)) ≡ filled (codes "#refused @ E13 Unbounded #@") (pos a.0 ∷ pos a.1 ∷ []) ++ 10 ∷ []
unfolding filled_from
unbounded_text a = simp append_assoc

pub unbounded_form : IsForm (λ (a : ℕ × ℕ). Refused a.0 (Unbounded a.1)) (codes "#refused @ E13 Unbounded #@") 2 (λ (a : ℕ × ℕ). pos a.0 ∷ pos a.1 ∷ [])
unbounded_form = record {
  text = unbounded_text;
  words = λ a h. more_words 1 (pos a.0) (pos a.1 ∷ []) (word_of a.0 (omega (arith, h.0))) (more_words 0 (pos a.1) ([]) (word_of a.1 (omega (arith, h.1))) (no_words));
  back = λ a b e. one_pair a b e;
  only = λ line within a h e. only_unbounded line within a h e;
}
