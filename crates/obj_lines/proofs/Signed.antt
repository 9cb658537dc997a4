-- Numbers with a sign at the front of a text.
use Rattle.std.proofs.Common.{◌≡◌, ◌≢◌, ℕ, ◌<◌, ◌^◌, ℤ, pos, negsuc, Bool, true, false, List, ◌∷◌, ◌++◌, unsigned_abs, FitsSigned, to_z, of_z, refl, sym, ap, ◌∙◌, subst, arith}
use Rattle.std.specs.Prelude.{int_lt, if◌then◌else◌}
use Rattle.std.specs.Fmt.{decimal, signed_decimal}
use Rattle.std.proofs.lemmas.Bool.{true≢false}
use Rattle.std.proofs.lemmas.Int.{ints, to_z-of_z}
use mir.Syntax.{w128}
use Rattle.obj_lines.specs.Templates.{IsFrontOf, HasNoFront, IsSize, IsWord, IsSigned, IsWithoutMinus}
use Rattle.obj_lines.proofs.Digits.{starts_with_digit}

-- a sign before the spelling of the size
abbrev pub signed : (ℕ → List ℕ) → ℤ → List ℕ
signed spelling n = if int_lt n (pos 0) then 45 ∷ spelling (unsigned_abs n) else spelling (unsigned_abs n)

-- sizes are spelled without a minus
abbrev pub HasNoMinus : (ℕ → List ℕ) → Type 0
HasNoMinus spelling = (n : ℕ) (r more : List ℕ) → IsSize n → spelling n ++ r ≢ 45 ∷ more

word_size : (n : ℤ) → IsWord n → unsigned_abs n < 2 ^ 128
word_size n h = omega (arith, ints, h.low, h.high)

never_negative : (n : ℕ) → int_lt (pos n) (pos 0) ≡ false
never_negative n = by (int_lt (pos n) (pos 0)) refl
  where
    by : (b : Bool) → int_lt (pos n) (pos 0) ≡ b → b ≡ false
    by true e = absurd (omega (arith, ints))
    by false e = refl

same_signed : (m n : ℤ) → int_lt m (pos 0) ≡ int_lt n (pos 0) → unsigned_abs m ≡ unsigned_abs n → m ≡ n
same_signed (pos m) (pos n) e f = ap pos f
same_signed (pos m) (negsuc n) e f = absurd (true≢false (sym e ∙ never_negative m))
same_signed (negsuc m) (pos n) e f = absurd (true≢false (e ∙ never_negative n))
same_signed (negsuc m) (negsuc n) e f = cc

module _ (spelling : ℕ → List ℕ) (plain : HasNoMinus spelling) (text sizes : List ℕ) (negative : Bool) (off : IsWithoutMinus text negative sizes) where
  -- the sign and the size that stand at the front of the text
  parts : (n : ℤ) (more : List ℕ) → IsWord n → signed spelling n ++ more ≡ text → (int_lt n (pos 0) ≡ negative) × (spelling (unsigned_abs n) ++ more ≡ sizes)
  parts n more h e = by (int_lt n (pos 0)) negative off.text_is off.once e
    where
      tails : (a b : ℕ) (x y : List ℕ) → a ∷ x ≡ b ∷ y → x ≡ y
      tails a b x y e = cc

      by : (s t : Bool) → (if t then 45 ∷ sizes else sizes) ≡ text → (t ≡ false → (rest : List ℕ) → sizes ≢ 45 ∷ rest)
          → (if s then 45 ∷ spelling (unsigned_abs n) else spelling (unsigned_abs n)) ++ more ≡ text → (s ≡ t) × (spelling (unsigned_abs n) ++ more ≡ sizes)
      by true true f once g = (refl, tails 45 45 (spelling (unsigned_abs n) ++ more) sizes (g ∙ sym f))
      by true false f once g = absurd (once refl (spelling (unsigned_abs n) ++ more) (f ∙ sym g))
      by false true f once g = absurd (plain (unsigned_abs n) more sizes (word_size n h) (g ∙ sym f))
      by false false f once g = (refl, g ∙ sym f)

  pub signed_front : (size : ℕ) (n : ℤ) (rest : List ℕ) → IsFrontOf spelling IsSize sizes size rest → IsWord n → IsSigned negative size n → IsFrontOf (signed spelling) IsWord text n rest
  signed_front size n rest front word is = record {
    text_is = ap (λ t. t ++ rest) (spelled is.sign is.size_is) ∙ joined negative off.text_is;
    within = word;
    ends = front.ends;
    sole = λ m more h k e.
        let p = parts m more h e in
        let q = front.sole (unsigned_abs m) more (word_size m h) k p.1 in
        (same_signed m n (p.0 ∙ sym is.sign) (q.0 ∙ sym is.size_is), q.1);
  }
    where
      spelled : int_lt n (pos 0) ≡ negative → unsigned_abs n ≡ size → signed spelling n ≡ (if negative then 45 ∷ spelling size else spelling size)
      spelled e f = rw (e, f) refl

      joined : (t : Bool) → (if t then 45 ∷ sizes else sizes) ≡ text → (if t then 45 ∷ spelling size else spelling size) ++ rest ≡ text
      joined true e = ap (λ x. 45 ∷ x) front.text_is ∙ e
      joined false e = front.text_is ∙ e

  pub no_signed : HasNoFront spelling IsSize sizes → HasNoFront (signed spelling) IsWord text
  no_signed none m more h k e = none (unsigned_abs m) more (word_size m h) k (parts m more h e).1

  pub no_signed_size : (size : ℕ) (rest : List ℕ) → IsFrontOf spelling IsSize sizes size rest → ((n : ℤ) → IsWord n → IsSigned negative size n → ⊥) → HasNoFront (signed spelling) IsWord text
  no_signed_size size rest front none m more h k e =
      let p = parts m more h e in
      none m h (record { sign = p.0; size_is = (front.sole (unsigned_abs m) more (word_size m h) k p.1).0 })

pub decimal_plain : HasNoMinus decimal
decimal_plain n r more h e = starts_with_digit n 45 r more h refl e

-- whole numbers
pub signed_is : (n : ℤ) → signed decimal n ≡ signed_decimal n
signed_is (pos n) = rw (never_negative n) refl
signed_is (negsuc n) = refl

pub whole_front : (text : List ℕ) (n : ℤ) (rest : List ℕ) → IsFrontOf (signed decimal) IsWord text n rest → IsFrontOf signed_decimal IsWord text n rest
whole_front text n rest front = record {
  text_is = ap (λ t. t ++ rest) (sym (signed_is n)) ∙ front.text_is;
  within = front.within;
  ends = front.ends;
  sole = λ m more h k e. front.sole m more h k (ap (λ t. t ++ more) (signed_is m) ∙ e);
}

pub no_whole : (text : List ℕ) → HasNoFront (signed decimal) IsWord text → HasNoFront signed_decimal IsWord text
no_whole text none m more h k e = none m more h k (ap (λ t. t ++ more) (signed_is m) ∙ e)

fits_word : (n : ℤ) → IsWord n → FitsSigned w128 n
fits_word (pos n) h = record { sfits = omega (arith, ints, h.high) }
fits_word (negsuc n) h = record { sfits = omega (arith, ints, h.low) }

-- what holds of a number holds of it after a trip to its bits
pub packed : (P : ℤ → Type 0) (n : ℤ) → IsWord n → P n → P (to_z w128 (of_z w128 n))
packed P n h p = subst P (sym (to_z-of_z w128 n (fits_word n h))) p
