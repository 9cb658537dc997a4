-- The kinds of lines and their templates.
use Rattle.std.proofs.Common.{◌≡◌, ℕ, ◌+◌, ◌^◌, ℤ, pos, negsuc, neg_ℤ, List, [], ◌∷◌, ◌++◌, Option, Some, None, Bool, true, false, drop, get_or, refl, sym, ap, ◌∙◌, subst, arith, append_assoc}
use Rattle.std.specs.Prelude.{codes, ◌==◌, ◌&&◌, int_le, int_lt, if◌then◌else◌}
use Rattle.std.proofs.lemmas.Int.{ints}
use Rattle.std.specs.Fmt.{decimal, signed_decimal}
use Rattle.spec_space.specs.declared.Point.{Point}
use Rattle.spec_space.specs.declared.Plane.{Plane}
use Rattle.spec_space.specs.declared.Vector.{Vector}
use Rattle.spec_place.specs.declared.transform.Transform.{Transform}
use Rattle.spec_check.specs.Limits.{IsVolume}
use Rattle.spec_page.specs.Lines.{spaced_vector}
use Rattle.obj_lines.specs.PageLines.{PageLine, line_text, IsLineWithin, Version, Grid, Element, Frame, Exact, Printed, Face, Edge, Indices, Volume, Skipped, Refused, End}
use Rattle.obj_lines.specs.Templates.{IsWord, filled_from, filled}
use Rattle.obj_lines.proofs.Digits.{and_left, and_right, starts_with_digit}
use Rattle.obj_lines.proofs.Forms.{IsForm, no_words, more_words, word_of_size, word_of}

-- ---- the kind of a line by the first bytes of its text
tag : List ℕ → ℕ
tag t = if get_or t 0 0 == 35 then (if get_or t 1 0 == 32 then get_or t 2 0 else 256 + get_or t 1 0) else 1024 + get_or t 0 0

abbrev pub tag_of : PageLine → ℕ
tag_of Version = 105
tag_of (Grid n) = 103
tag_of (Element n) = 1135
tag_of (Frame f) = 358
tag_of (Exact p) = 355
tag_of (Printed v) = 1142
tag_of (Face h) = 368
tag_of (Edge h) = 357
tag_of (Indices ns) = 1126
tag_of (Volume six) = 374
tag_of (Skipped n) = 371
tag_of (Refused n why) = 370
tag_of End = 101

tag_is : (line : PageLine) → tag (line_text line) ≡ tag_of line
unfolding tag
tag_is Version = refl
tag_is (Grid n) = refl
tag_is (Element n) = refl
tag_is (Frame f) = refl
tag_is (Exact p) = refl
tag_is (Printed v) = refl
tag_is (Face h) = refl
tag_is (Edge h) = refl
tag_is (Indices ns) = refl
tag_is (Volume None) = refl
tag_is (Volume (Some six)) = refl
tag_is (Skipped n) = refl
tag_is (Refused n why) = refl
tag_is End = refl

pub same_tag : (line other : PageLine) → line_text line ≡ line_text other → tag_of line ≡ tag_of other
same_tag line other e = sym (tag_is line) ∙ ap tag e ∙ tag_is other

-- ---- lists of numbers
one_natural : (a b : ℕ) → pos a ∷ [] ≡ pos b ∷ [] → a ≡ b
one_natural a b e = cc

one_number : (a b : ℤ) → a ∷ [] ≡ b ∷ [] → a ≡ b
one_number a b e = cc

four : (a b c d e f g h : ℤ) → a ∷ b ∷ c ∷ d ∷ [] ≡ e ∷ f ∷ g ∷ h ∷ [] → (a ≡ e) × (b ≡ f) × (c ≡ g) × (d ≡ h)
four a b c d e f g h p = (cc, cc, cc, cc)

three : (a b c d e f : ℤ) → a ∷ b ∷ c ∷ [] ≡ d ∷ e ∷ f ∷ [] → (a ≡ d) × (b ≡ e) × (c ≡ f)
three a b c d e f p = (cc, cc, cc)

pub one_point : (p q : Point) → p.x ∷ p.y ∷ p.z ∷ p.w ∷ [] ≡ q.x ∷ q.y ∷ q.z ∷ q.w ∷ [] → p ≡ q
one_point p q e = let s = four p.x p.y p.z p.w q.x q.y q.z q.w e in λ i. record { x = s.0 i; y = s.1 i; z = s.2 i; w = s.3 i }

pub one_plane : (p q : Plane) → p.a ∷ p.b ∷ p.c ∷ p.d ∷ [] ≡ q.a ∷ q.b ∷ q.c ∷ q.d ∷ [] → p ≡ q
one_plane p q e = let s = four p.a p.b p.c p.d q.a q.b q.c q.d e in λ i. record { a = s.0 i; b = s.1 i; c = s.2 i; d = s.3 i }

pub one_vector : (p q : Vector) → p.x ∷ p.y ∷ p.z ∷ [] ≡ q.x ∷ q.y ∷ q.z ∷ [] → p ≡ q
one_vector p q e = let s = three p.x p.y p.z q.x q.y q.z e in λ i. record { x = s.0 i; y = s.1 i; z = s.2 i }

cut : (a b c d e f : ℤ) (xs ys : List ℤ) → a ∷ b ∷ c ∷ xs ≡ d ∷ e ∷ f ∷ ys → (a ∷ b ∷ c ∷ [] ≡ d ∷ e ∷ f ∷ []) × (xs ≡ ys)
cut a b c d e f xs ys p = (cc, cc)

abbrev pub vector_numbers : Vector → List ℤ → List ℤ
vector_numbers v ns = v.x ∷ v.y ∷ v.z ∷ ns

abbrev pub frame_numbers : Transform → List ℤ
frame_numbers f = vector_numbers f.x (vector_numbers f.y (vector_numbers f.z (vector_numbers f.off [])))

pub one_frame : (p q : Transform) → frame_numbers p ≡ frame_numbers q → p ≡ q
one_frame p q e =
    let a = cut p.x.x p.x.y p.x.z q.x.x q.x.y q.x.z (vector_numbers p.y (vector_numbers p.z (vector_numbers p.off []))) (vector_numbers q.y (vector_numbers q.z (vector_numbers q.off []))) e in
    let b = cut p.y.x p.y.y p.y.z q.y.x q.y.y q.y.z (vector_numbers p.z (vector_numbers p.off [])) (vector_numbers q.z (vector_numbers q.off [])) a.1 in
    let c = cut p.z.x p.z.y p.z.z q.z.x q.z.y q.z.z (vector_numbers p.off []) (vector_numbers q.off []) b.1 in
    let x = one_vector p.x q.x a.0 in
    let y = one_vector p.y q.y b.0 in
    let z = one_vector p.z q.z c.0 in
    let off = one_vector p.off q.off c.1 in
    λ i. record { x = x i; y = y i; z = z i; off = off i }

-- ---- volumes
volume_bounds : (v : ℤ) → IsVolume v → (int_le (neg_ℤ (pos (2 ^ 127))) v && int_lt v (pos (2 ^ 127))) ≡ true
volume_bounds v h = by (int_le (neg_ℤ (pos (2 ^ 127))) v && int_lt v (pos (2 ^ 127))) h
  where
    by : (b : Bool) → (if b then Some v else None) ≡ Some v → b ≡ true
    by true e = refl
    by false e = cc

pub volume_word : (v : ℤ) → IsVolume v → IsWord v
volume_word v h =
    let both = volume_bounds v h in
    let low : int_le (neg_ℤ (pos (2 ^ 127))) v ≡ true = and_left (int_le (neg_ℤ (pos (2 ^ 127))) v) (int_lt v (pos (2 ^ 127))) both in
    let high : int_lt v (pos (2 ^ 127)) ≡ true = and_right (int_le (neg_ℤ (pos (2 ^ 127))) v) (int_lt v (pos (2 ^ 127))) both in
    record { low = omega (arith, ints); high = omega (arith, ints) }

pub word_volume : (v : ℤ) → IsWord v → IsVolume v
word_volume v h = by (int_le (neg_ℤ (pos (2 ^ 127))) v) (int_lt v (pos (2 ^ 127))) refl refl
  where
    by : (b c : Bool) → int_le (neg_ℤ (pos (2 ^ 127))) v ≡ b → int_lt v (pos (2 ^ 127)) ≡ c → (if b && c then Some v else None) ≡ Some v
    by true true e f = refl
    by true false e f = absurd (omega (arith, ints, h.high))
    by false c e f = absurd (omega (arith, ints, h.low))

volume_apart : (six : ℤ) → IsVolume six → line_text (Volume (Some six)) ≡ line_text (Volume None) → ⊥
volume_apart (pos n) h e =
    let word = volume_word (pos n) h in
    let behind : decimal n ++ 10 ∷ [] ≡ 110 ∷ 111 ∷ 110 ∷ 101 ∷ 10 ∷ [] = ap (drop 6) e in
    starts_with_digit n 110 (10 ∷ []) (111 ∷ 110 ∷ 101 ∷ 10 ∷ []) (omega (arith, ints, word.high)) refl behind
volume_apart (negsuc n) h e =
    let first : ◌≡◌ {A = ℕ} 45 110 = ap (λ t. get_or t 6 0) e in
    omega arith

-- ---- the text of a frame
chain : Vector → List ℕ → List ℕ
chain v rest = 32 ∷ (signed_decimal v.x ++ 32 ∷ (signed_decimal v.y ++ 32 ∷ (signed_decimal v.z ++ rest)))

chain_line : (v : Vector) (more : List ℕ) → spaced_vector v ++ more ≡ chain v more
unfolding chain
chain_line v more = simp append_assoc

chain_more : (v : Vector) (rest more : List ℕ) → chain v rest ++ more ≡ chain v (rest ++ more)
unfolding chain
chain_more v rest more = simp append_assoc

regroup : (h a b c d e : List ℕ) → ((((h ++ a) ++ b) ++ c) ++ d) ++ e ≡ h ++ (a ++ (b ++ (c ++ (d ++ e))))
regroup h a b c d e = simp append_assoc

chained : (x y z off : Vector) (rest : List ℕ) → List ℕ
chained x y z off rest = chain x (chain y (chain z (chain off rest)))

chained_more : (x y z off : Vector) (rest more : List ℕ) → chained x y z off rest ++ more ≡ chained x y z off (rest ++ more)
unfolding chained
chained_more x y z off rest more =
    chain_more x (chain y (chain z (chain off rest))) more
    ∙ ap (chain x) (chain_more y (chain z (chain off rest)) more
    ∙ ap (chain y) (chain_more z (chain off rest) more
    ∙ ap (chain z) (chain_more off rest more)))

chained_line : (x y z off : Vector) (more : List ℕ) → spaced_vector x ++ (spaced_vector y ++ (spaced_vector z ++ (spaced_vector off ++ more))) ≡ chained x y z off more
unfolding chained
chained_line x y z off more =
    chain_line x (spaced_vector y ++ (spaced_vector z ++ (spaced_vector off ++ more)))
    ∙ ap (chain x) (chain_line y (spaced_vector z ++ (spaced_vector off ++ more))
    ∙ ap (chain y) (chain_line z (spaced_vector off ++ more)
    ∙ ap (chain z) (chain_line off more)))

frame_filled : (a : Transform) → filled (codes "#frame @ @ @ @ @ @ @ @ @ @ @ @") (frame_numbers a) ≡ codes "#frame" ++ chained a.x a.y a.z a.off []
unfolding filled_from chain chained
frame_filled a = refl

only_version : (line : PageLine) (a : Unit {0}) → line_text line ≡ line_text (Version) → (b : Unit {0}) × (line ≡ Version)
only_version line a e = by line (same_tag line (Version) e)
  where
    by : (line : PageLine) → tag_of line ≡ 105 → (b : Unit {0}) × (line ≡ Version)
    by (Version) e = (tt, refl)
    by _ e = absurd (omega arith)

version_text : (a : Unit {0}) → line_text (Version) ≡ filled (codes "# ifcexact 1") ([]) ++ 10 ∷ []
unfolding filled_from
version_text a = refl

pub version_form : IsForm (λ (a : Unit {0}). Version) (codes "# ifcexact 1") 0 (λ (a : Unit {0}). [])
version_form = record {
  text = version_text;
  words = λ a h. no_words;
  back = λ a b e. refl;
  only = λ line within a fits e. only_version line a e;
}

only_end : (line : PageLine) (a : Unit {0}) → line_text line ≡ line_text (End) → (b : Unit {0}) × (line ≡ End)
only_end line a e = by line (same_tag line (End) e)
  where
    by : (line : PageLine) → tag_of line ≡ 101 → (b : Unit {0}) × (line ≡ End)
    by (End) e = (tt, refl)
    by _ e = absurd (omega arith)

end_text : (a : Unit {0}) → line_text (End) ≡ filled (codes "# end") ([]) ++ 10 ∷ []
unfolding filled_from
end_text a = refl

pub end_form : IsForm (λ (a : Unit {0}). End) (codes "# end") 0 (λ (a : Unit {0}). [])
end_form = record {
  text = end_text;
  words = λ a h. no_words;
  back = λ a b e. refl;
  only = λ line within a fits e. only_end line a e;
}

only_grid : (line : PageLine) (a : ℕ) → line_text line ≡ line_text (Grid a) → (b : ℕ) × (line ≡ Grid b)
only_grid line a e = by line (same_tag line (Grid a) e)
  where
    by : (line : PageLine) → tag_of line ≡ 103 → (b : ℕ) × (line ≡ Grid b)
    by (Grid b) e = (b, refl)
    by _ e = absurd (omega arith)

grid_text : (a : ℕ) → line_text (Grid a) ≡ filled (codes "# grid @") (pos a ∷ []) ++ 10 ∷ []
unfolding filled_from
grid_text a = simp append_assoc

pub grid_form : IsForm Grid (codes "# grid @") 1 (λ (a : ℕ). pos a ∷ [])
grid_form = record {
  text = grid_text;
  words = λ a h. more_words 0 (pos a) ([]) (word_of a (omega (arith, h.most))) (no_words);
  back = λ a b e. one_natural a b e;
  only = λ line within a fits e. only_grid line a e;
}

only_element : (line : PageLine) (a : ℕ) → line_text line ≡ line_text (Element a) → (b : ℕ) × (line ≡ Element b)
only_element line a e = by line (same_tag line (Element a) e)
  where
    by : (line : PageLine) → tag_of line ≡ 1135 → (b : ℕ) × (line ≡ Element b)
    by (Element b) e = (b, refl)
    by _ e = absurd (omega arith)

element_text : (a : ℕ) → line_text (Element a) ≡ filled (codes "o @") (pos a ∷ []) ++ 10 ∷ []
unfolding filled_from
element_text a = simp append_assoc

pub element_form : IsForm Element (codes "o @") 1 (λ (a : ℕ). pos a ∷ [])
element_form = record {
  text = element_text;
  words = λ a h. more_words 0 (pos a) ([]) (word_of a (omega (arith, h))) (no_words);
  back = λ a b e. one_natural a b e;
  only = λ line within a fits e. only_element line a e;
}

only_skipped : (line : PageLine) (a : ℕ) → line_text line ≡ line_text (Skipped a) → (b : ℕ) × (line ≡ Skipped b)
only_skipped line a e = by line (same_tag line (Skipped a) e)
  where
    by : (line : PageLine) → tag_of line ≡ 371 → (b : ℕ) × (line ≡ Skipped b)
    by (Skipped b) e = (b, refl)
    by _ e = absurd (omega arith)

skipped_text : (a : ℕ) → line_text (Skipped a) ≡ filled (codes "#skipped @") (pos a ∷ []) ++ 10 ∷ []
unfolding filled_from
skipped_text a = simp append_assoc

pub skipped_form : IsForm Skipped (codes "#skipped @") 1 (λ (a : ℕ). pos a ∷ [])
skipped_form = record {
  text = skipped_text;
  words = λ a h. more_words 0 (pos a) ([]) (word_of a (omega (arith, h))) (no_words);
  back = λ a b e. one_natural a b e;
  only = λ line within a fits e. only_skipped line a e;
}

only_exact : (line : PageLine) (a : Point) → line_text line ≡ line_text (Exact a) → (b : Point) × (line ≡ Exact b)
only_exact line a e = by line (same_tag line (Exact a) e)
  where
    by : (line : PageLine) → tag_of line ≡ 355 → (b : Point) × (line ≡ Exact b)
    by (Exact b) e = (b, refl)
    by _ e = absurd (omega arith)

exact_text : (a : Point) → line_text (Exact a) ≡ filled (codes "#c @ @ @ @") (a.x ∷ a.y ∷ a.z ∷ a.w ∷ []) ++ 10 ∷ []
unfolding filled_from
exact_text a = simp append_assoc

pub exact_form : IsForm Exact (codes "#c @ @ @ @") 4 (λ (a : Point). a.x ∷ a.y ∷ a.z ∷ a.w ∷ [])
exact_form = record {
  text = exact_text;
  words = λ a h. more_words 3 (a.x) (a.y ∷ a.z ∷ a.w ∷ []) (word_of_size a.x (omega (arith, h.size.x))) (more_words 2 (a.y) (a.z ∷ a.w ∷ []) (word_of_size a.y (omega (arith, h.size.y))) (more_words 1 (a.z) (a.w ∷ []) (word_of_size a.z (omega (arith, h.size.z))) (more_words 0 (a.w) ([]) (word_of_size a.w (omega (arith, h.weight))) (no_words))));
  back = λ a b e. one_point a b e;
  only = λ line within a fits e. only_exact line a e;
}

only_printed : (line : PageLine) (a : Vector) → line_text line ≡ line_text (Printed a) → (b : Vector) × (line ≡ Printed b)
only_printed line a e = by line (same_tag line (Printed a) e)
  where
    by : (line : PageLine) → tag_of line ≡ 1142 → (b : Vector) × (line ≡ Printed b)
    by (Printed b) e = (b, refl)
    by _ e = absurd (omega arith)

printed_text : (a : Vector) → line_text (Printed a) ≡ filled (codes "v ~ ~ ~") (a.x ∷ a.y ∷ a.z ∷ []) ++ 10 ∷ []
unfolding filled_from
printed_text a = simp append_assoc

pub printed_form : IsForm Printed (codes "v ~ ~ ~") 3 (λ (a : Vector). a.x ∷ a.y ∷ a.z ∷ [])
printed_form = record {
  text = printed_text;
  words = λ a h. more_words 2 (a.x) (a.y ∷ a.z ∷ []) (word_of_size a.x (omega (arith, h.x))) (more_words 1 (a.y) (a.z ∷ []) (word_of_size a.y (omega (arith, h.y))) (more_words 0 (a.z) ([]) (word_of_size a.z (omega (arith, h.z))) (no_words)));
  back = λ a b e. one_vector a b e;
  only = λ line within a fits e. only_printed line a e;
}

only_face : (line : PageLine) (a : Plane) → line_text line ≡ line_text (Face a) → (b : Plane) × (line ≡ Face b)
only_face line a e = by line (same_tag line (Face a) e)
  where
    by : (line : PageLine) → tag_of line ≡ 368 → (b : Plane) × (line ≡ Face b)
    by (Face b) e = (b, refl)
    by _ e = absurd (omega arith)

face_text : (a : Plane) → line_text (Face a) ≡ filled (codes "#p @ @ @ @") (a.a ∷ a.b ∷ a.c ∷ a.d ∷ []) ++ 10 ∷ []
unfolding filled_from
face_text a = simp append_assoc

pub face_form : IsForm Face (codes "#p @ @ @ @") 4 (λ (a : Plane). a.a ∷ a.b ∷ a.c ∷ a.d ∷ [])
face_form = record {
  text = face_text;
  words = λ a h. more_words 3 (a.a) (a.b ∷ a.c ∷ a.d ∷ []) (word_of_size a.a (omega (arith, h.a))) (more_words 2 (a.b) (a.c ∷ a.d ∷ []) (word_of_size a.b (omega (arith, h.b))) (more_words 1 (a.c) (a.d ∷ []) (word_of_size a.c (omega (arith, h.c))) (more_words 0 (a.d) ([]) (word_of_size a.d (omega (arith, h.d))) (no_words))));
  back = λ a b e. one_plane a b e;
  only = λ line within a fits e. only_face line a e;
}

only_edge : (line : PageLine) (a : Plane) → line_text line ≡ line_text (Edge a) → (b : Plane) × (line ≡ Edge b)
only_edge line a e = by line (same_tag line (Edge a) e)
  where
    by : (line : PageLine) → tag_of line ≡ 357 → (b : Plane) × (line ≡ Edge b)
    by (Edge b) e = (b, refl)
    by _ e = absurd (omega arith)

edge_text : (a : Plane) → line_text (Edge a) ≡ filled (codes "#e @ @ @ @") (a.a ∷ a.b ∷ a.c ∷ a.d ∷ []) ++ 10 ∷ []
unfolding filled_from
edge_text a = simp append_assoc

pub edge_form : IsForm Edge (codes "#e @ @ @ @") 4 (λ (a : Plane). a.a ∷ a.b ∷ a.c ∷ a.d ∷ [])
edge_form = record {
  text = edge_text;
  words = λ a h. more_words 3 (a.a) (a.b ∷ a.c ∷ a.d ∷ []) (word_of_size a.a (omega (arith, h.a))) (more_words 2 (a.b) (a.c ∷ a.d ∷ []) (word_of_size a.b (omega (arith, h.b))) (more_words 1 (a.c) (a.d ∷ []) (word_of_size a.c (omega (arith, h.c))) (more_words 0 (a.d) ([]) (word_of_size a.d (omega (arith, h.d))) (no_words))));
  back = λ a b e. one_plane a b e;
  only = λ line within a fits e. only_edge line a e;
}

only_frame : (line : PageLine) (a : Transform) → line_text line ≡ line_text (Frame a) → (b : Transform) × (line ≡ Frame b)
only_frame line a e = by line (same_tag line (Frame a) e)
  where
    by : (line : PageLine) → tag_of line ≡ 358 → (b : Transform) × (line ≡ Frame b)
    by (Frame b) e = (b, refl)
    by _ e = absurd (omega arith)

frame_text : (a : Transform) → line_text (Frame a) ≡ filled (codes "#frame @ @ @ @ @ @ @ @ @ @ @ @") (frame_numbers a) ++ 10 ∷ []
unfolding filled_from
frame_text a = regroup (codes "#frame") (spaced_vector a.x) (spaced_vector a.y) (spaced_vector a.z) (spaced_vector a.off) (10 ∷ [])
    ∙ ap (λ t. codes "#frame" ++ t) (chained_line a.x a.y a.z a.off (10 ∷ []))
    ∙ sym (ap (λ t. t ++ 10 ∷ []) (frame_filled a) ∙ append_assoc (codes "#frame") (chained a.x a.y a.z a.off []) (10 ∷ []) ∙ ap (λ t. codes "#frame" ++ t) (chained_more a.x a.y a.z a.off [] (10 ∷ [])))

pub frame_form : IsForm Frame (codes "#frame @ @ @ @ @ @ @ @ @ @ @ @") 12 (λ (a : Transform). frame_numbers a)
frame_form = record {
  text = frame_text;
  words = λ a h. more_words 11 (a.x.x) (a.x.y ∷ a.x.z ∷ a.y.x ∷ a.y.y ∷ a.y.z ∷ a.z.x ∷ a.z.y ∷ a.z.z ∷ a.off.x ∷ a.off.y ∷ a.off.z ∷ []) (word_of_size a.x.x (omega (arith, h.x.x))) (more_words 10 (a.x.y) (a.x.z ∷ a.y.x ∷ a.y.y ∷ a.y.z ∷ a.z.x ∷ a.z.y ∷ a.z.z ∷ a.off.x ∷ a.off.y ∷ a.off.z ∷ []) (word_of_size a.x.y (omega (arith, h.x.y))) (more_words 9 (a.x.z) (a.y.x ∷ a.y.y ∷ a.y.z ∷ a.z.x ∷ a.z.y ∷ a.z.z ∷ a.off.x ∷ a.off.y ∷ a.off.z ∷ []) (word_of_size a.x.z (omega (arith, h.x.z))) (more_words 8 (a.y.x) (a.y.y ∷ a.y.z ∷ a.z.x ∷ a.z.y ∷ a.z.z ∷ a.off.x ∷ a.off.y ∷ a.off.z ∷ []) (word_of_size a.y.x (omega (arith, h.y.x))) (more_words 7 (a.y.y) (a.y.z ∷ a.z.x ∷ a.z.y ∷ a.z.z ∷ a.off.x ∷ a.off.y ∷ a.off.z ∷ []) (word_of_size a.y.y (omega (arith, h.y.y))) (more_words 6 (a.y.z) (a.z.x ∷ a.z.y ∷ a.z.z ∷ a.off.x ∷ a.off.y ∷ a.off.z ∷ []) (word_of_size a.y.z (omega (arith, h.y.z))) (more_words 5 (a.z.x) (a.z.y ∷ a.z.z ∷ a.off.x ∷ a.off.y ∷ a.off.z ∷ []) (word_of_size a.z.x (omega (arith, h.z.x))) (more_words 4 (a.z.y) (a.z.z ∷ a.off.x ∷ a.off.y ∷ a.off.z ∷ []) (word_of_size a.z.y (omega (arith, h.z.y))) (more_words 3 (a.z.z) (a.off.x ∷ a.off.y ∷ a.off.z ∷ []) (word_of_size a.z.z (omega (arith, h.z.z))) (more_words 2 (a.off.x) (a.off.y ∷ a.off.z ∷ []) (word_of_size a.off.x (omega (arith, h.off.x))) (more_words 1 (a.off.y) (a.off.z ∷ []) (word_of_size a.off.y (omega (arith, h.off.y))) (more_words 0 (a.off.z) ([]) (word_of_size a.off.z (omega (arith, h.off.z))) (no_words))))))))))));
  back = λ a b e. one_frame a b e;
  only = λ line within a fits e. only_frame line a e;
}

only_volume : (line : PageLine) (a : Option ℤ) → line_text line ≡ line_text (Volume a) → (b : Option ℤ) × (line ≡ Volume b)
only_volume line a e = by line (same_tag line (Volume a) (e))
  where
    by : (line : PageLine) → tag_of line ≡ 374 → (b : Option ℤ) × (line ≡ Volume b)
    by (Volume b) e = (b, refl)
    by _ e = absurd (omega arith)

only_some : (line : PageLine) (a : ℤ) → IsVolume a → line_text line ≡ line_text (Volume (Some a)) → (b : ℤ) × (line ≡ Volume (Some b))
only_some line a h e = let o = only_volume line (Some a) e in by o.0 o.1
  where
    by : (o : Option ℤ) → line ≡ Volume o → (b : ℤ) × (line ≡ Volume (Some b))
    by None is = absurd (volume_apart a h (sym e ∙ ap line_text is))
    by (Some b) is = (b, is)

only_none : (line : PageLine) → IsLineWithin line → line_text line ≡ line_text (Volume None) → line ≡ Volume None
only_none line h e = let o = only_volume line None e in by o.0 o.1
  where
    by : (o : Option ℤ) → line ≡ Volume o → line ≡ Volume None
    by None is = is
    by (Some b) is = absurd (volume_apart b (subst IsLineWithin is h) (ap line_text (sym is) ∙ e))

some_volume_text : (a : ℤ) → line_text (Volume (Some a)) ≡ filled (codes "#vol6 @") (a ∷ []) ++ 10 ∷ []
unfolding filled_from
some_volume_text a = simp append_assoc

pub some_volume_form : IsForm (λ (a : ℤ). Volume (Some a)) (codes "#vol6 @") 1 (λ (a : ℤ). a ∷ [])
some_volume_form = record {
  text = some_volume_text;
  words = λ a h. more_words 0 (a) ([]) (volume_word a h) (no_words);
  back = λ a b e. one_number a b e;
  only = λ line within a fits e. only_some line a fits e;
}

no_volume_text : (a : Unit {0}) → line_text (Volume None) ≡ filled (codes "#vol6 none") ([]) ++ 10 ∷ []
unfolding filled_from
no_volume_text a = refl

pub no_volume_form : IsForm (λ (a : Unit {0}). Volume None) (codes "#vol6 none") 0 (λ (a : Unit {0}). [])
no_volume_form = record {
  text = no_volume_text;
  words = λ a h. no_words;
  back = λ a b e. refl;
  only = λ line within a fits e. (tt, only_none line within e);
}
