-- Lines by their templates.
use Rattle.std.proofs.Common.{◌≡◌, ℕ, zero, suc, ◌<◌, ◌^◌, ℤ, pos, List, [], ◌∷◌, ◌++◌, length, unsigned_abs, to_z, of_z, refl, sym, ap, ◌∙◌, subst, arith}
use mir.Syntax.{w128}
use Rattle.obj_lines.proofs.Signed.{packed}
use Rattle.std.proofs.lemmas.Int.{ints}
use Rattle.std.proofs.lemmas.List.{append_cancel_right}
use Rattle.exact_mesh.specs.Meshes.{number_at}
use Rattle.obj_lines.specs.PageLines.{PageLine, line_text, IsLineWithin}
use Rattle.obj_lines.specs.Templates.{IsWord, filled, AreWords, IsFilledBy, IsNotFilled}
use Rattle.obj_lines.specs.Readings.{IsLineOf, IsNotOf}

-- the lines of a kind are the texts of a template
pub record IsForm {A : Type 0} (make : A → PageLine) (template : List ℕ) (count : ℕ) (numbers : A → List ℤ) : Type 0 where
  pub text : (a : A) → line_text (make a) ≡ filled template (numbers a) ++ 10 ∷ []
  pub words : (a : A) → IsLineWithin (make a) → AreWords count (numbers a)
  pub back : (a b : A) → numbers a ≡ numbers b → a ≡ b
  pub only : (line : PageLine) → IsLineWithin line → (a : A) → IsLineWithin (make a) → line_text line ≡ line_text (make a) → (b : A) × (line ≡ make b)

module _ {A : Type 0} (make : A → PageLine) (template : List ℕ) (count : ℕ) (numbers : A → List ℤ) (form : IsForm make template count numbers) (text : List ℕ) where
  pub filled_is : (a : A) → line_text (make a) ≡ text ++ 10 ∷ [] → filled template (numbers a) ≡ text
  filled_is a e = append_cancel_right (filled template (numbers a)) text (10 ∷ []) (sym (form.text a) ∙ e)

  pub form_none : IsNotFilled template text count → IsNotOf make text
  form_none none a within e = none (numbers a) (form.words a within) (filled_is a e)

  module _ (ns : List ℤ) (is : IsFilledBy template text count ns) where
    same : (a : A) → IsLineWithin (make a) → line_text (make a) ≡ text ++ 10 ∷ [] → numbers a ≡ ns
    same a within e = is.sole (numbers a) (form.words a within) (filled_is a e)

    pub form_out : ((a : A) → IsLineWithin (make a) → numbers a ≡ ns → ⊥) → IsNotOf make text
    form_out out a within e = out a within (same a within e)

    pub form_some : (a : A) → IsLineWithin (make a) → numbers a ≡ ns → IsLineOf text (make a)
    form_some a within e = record {
      within = within;
      text_is = text_is;
      sole = λ other fits f.
          let b = form.only other fits a within (f ∙ sym text_is) in
          b.1 ∙ ap make (form.back b.0 a (same b.0 (subst IsLineWithin b.1 fits) (ap line_text (sym b.1) ∙ f) ∙ sym e));
    }
      where
        text_is : line_text (make a) ≡ text ++ 10 ∷ []
        text_is = form.text a ∙ ap (λ t. t ++ 10 ∷ []) (ap (filled template) e ∙ is.text_is)

-- ---- words
pub no_words : AreWords 0 []
no_words = record { count_is = refl; each = λ i h. absurd (omega arith) }

pub more_words : (n : ℕ) (x : ℤ) (ns : List ℤ) → IsWord x → AreWords n ns → AreWords (suc n) (x ∷ ns)
more_words n x ns p words = record { count_is = ap suc words.count_is; each = each }
  where
    each : (i : ℕ) → i < suc n → IsWord (number_at (x ∷ ns) i)
    each zero h = p
    each (suc i) h = words.each i (omega arith)

pub word_of_size : (n : ℤ) → unsigned_abs n < 2 ^ 127 → IsWord n
word_of_size n h = record { low = omega (arith, ints); high = omega (arith, ints) }

pub word_of : (n : ℕ) → n < 2 ^ 127 → IsWord (pos n)
word_of n h = word_of_size (pos n) h

-- a number that comes back from its bits
pub unpack : (n : ℤ) → IsWord n → to_z w128 (of_z w128 n) ≡ n
unpack n h = packed (λ m. m ≡ n) n h refl

-- a list of so many numbers
pub list_one : (ns : List ℤ) → length ns ≡ 1 → number_at ns 0 ∷ [] ≡ ns
list_one (a ∷ []) h = refl
list_one _ h = absurd (omega arith)

pub list_three : (ns : List ℤ) → length ns ≡ 3 → number_at ns 0 ∷ number_at ns 1 ∷ number_at ns 2 ∷ [] ≡ ns
list_three (a ∷ b ∷ c ∷ []) h = refl
list_three _ h = absurd (omega arith)

pub list_four : (ns : List ℤ) → length ns ≡ 4 → number_at ns 0 ∷ number_at ns 1 ∷ number_at ns 2 ∷ number_at ns 3 ∷ [] ≡ ns
list_four (a ∷ b ∷ c ∷ d ∷ []) h = refl
list_four _ h = absurd (omega arith)

pub unpacked_four : (ns : List ℤ) → AreWords 4 ns
    → to_z w128 (of_z w128 (number_at ns 0)) ∷ to_z w128 (of_z w128 (number_at ns 1)) ∷ to_z w128 (of_z w128 (number_at ns 2)) ∷ to_z w128 (of_z w128 (number_at ns 3)) ∷ [] ≡ ns
unpacked_four ns words =
    cells (to_z w128 (of_z w128 (number_at ns 0))) (to_z w128 (of_z w128 (number_at ns 1))) (to_z w128 (of_z w128 (number_at ns 2))) (to_z w128 (of_z w128 (number_at ns 3)))
    (number_at ns 0) (number_at ns 1) (number_at ns 2) (number_at ns 3)
    (unpack (number_at ns 0) (words.each 0 (omega arith))) (unpack (number_at ns 1) (words.each 1 (omega arith))) (unpack (number_at ns 2) (words.each 2 (omega arith))) (unpack (number_at ns 3) (words.each 3 (omega arith)))
    ∙ list_four ns words.count_is
  where
    cells : (a b c d e f g h : ℤ) → a ≡ e → b ≡ f → c ≡ g → d ≡ h → a ∷ b ∷ c ∷ d ∷ [] ≡ e ∷ f ∷ g ∷ h ∷ []
    cells a b c d e f g h p q r s = cc

pub unpacked_three : (ns : List ℤ) → AreWords 3 ns
    → to_z w128 (of_z w128 (number_at ns 0)) ∷ to_z w128 (of_z w128 (number_at ns 1)) ∷ to_z w128 (of_z w128 (number_at ns 2)) ∷ [] ≡ ns
unpacked_three ns words =
    cells (to_z w128 (of_z w128 (number_at ns 0))) (to_z w128 (of_z w128 (number_at ns 1))) (to_z w128 (of_z w128 (number_at ns 2)))
    (number_at ns 0) (number_at ns 1) (number_at ns 2)
    (unpack (number_at ns 0) (words.each 0 (omega arith))) (unpack (number_at ns 1) (words.each 1 (omega arith))) (unpack (number_at ns 2) (words.each 2 (omega arith)))
    ∙ list_three ns words.count_is
  where
    cells : (a b c e f g : ℤ) → a ≡ e → b ≡ f → c ≡ g → a ∷ b ∷ c ∷ [] ≡ e ∷ f ∷ g ∷ []
    cells a b c e f g p q r = cc

pub twelve_numbers : (ns : List ℤ) → length ns ≡ 12
    → number_at ns 0 ∷ number_at ns 1 ∷ number_at ns 2 ∷ number_at ns 3 ∷ number_at ns 4 ∷ number_at ns 5 ∷ number_at ns 6 ∷ number_at ns 7 ∷ number_at ns 8 ∷ number_at ns 9 ∷ number_at ns 10 ∷ number_at ns 11 ∷ [] ≡ ns
twelve_numbers (a ∷ b ∷ c ∷ d ∷ e ∷ f ∷ g ∷ h ∷ i ∷ j ∷ k ∷ l ∷ []) p = refl
twelve_numbers _ p = absurd (omega arith)

pub list_none : (ns : List ℤ) → length ns ≡ 0 → [] ≡ ns
list_none [] h = refl
list_none (a ∷ ns) h = absurd (omega arith)
