-- The digits at the front of a text, and the number that they spell.
use Rattle.std.proofs.Common.{◌≡◌, ◌≢◌, ℕ, ◌<◌, ◌^◌, Bool, true, false, List, [], ◌∷◌, ◌++◌, length, Some, refl, sym, ap, ◌∙◌, subst, arith}
use Rattle.std.specs.Prelude.{not, ◌&&◌}
use Rattle.std.specs.List.{list_all}
use Rattle.std.specs.Char.{is_ascii_digit}
use Rattle.std.specs.Str.{all_ascii_digits, bytes_eq}
use Rattle.std.specs.Fmt.{decimal}
use Rattle.std.proofs.lemmas.Bool.{true≢false}
use Rattle.std.proofs.lemmas.Slice.Eq.{bytes_eq-Decides}
use Rattle.std.proofs.lemmas.Fmt.{decimal_is_IsNumeral_wide}
use Rattle.std.proofs.lemmas.Str.Parse.{tells_all_ascii_digits, numerals_by_value}
use Rattle.std.specs.Str.Parse.{digits_value}
use Rattle.obj_lines.specs.Templates.{is_end, IsFrontOf, HasNoFront, IsSize}

pub and_left : (a b : Bool) → (a && b) ≡ true → a ≡ true
and_left true b e = refl
and_left false b e = e

pub and_right : (a b : Bool) → (a && b) ≡ true → b ≡ true
and_right true b e = e
and_right false b e = cc

pub not_both : (b : Bool) → b ≡ true → not b ≡ true → ⊥
not_both true p q = cc
not_both false p q = cc

digits_all : (cs : List ℕ) → all_ascii_digits cs ≡ list_all is_ascii_digit cs
digits_all [] = refl
digits_all (c ∷ cs) = ap (λ b. is_ascii_digit c && b) (digits_all cs)

-- a number is spelled by digits, one at least
pub decimal_digits : (n : ℕ) → n < 2 ^ 128 → list_all is_ascii_digit (decimal n) ≡ true
decimal_digits n h =
    let own = numerals_by_value (λ ds. all_ascii_digits ds ≡ true) tells_all_ascii_digits in
    let wide : n < 10 ^ 64 = omega arith in
    sym (digits_all (decimal n)) ∙ own.from (decimal n) (decimal_is_IsNumeral_wide n wide).0.1

pub decimal_some : (n : ℕ) → n < 2 ^ 128 → 0 < length (decimal n)
decimal_some n h = let wide : n < 10 ^ 64 = omega arith in (decimal_is_IsNumeral_wide n wide).0.0

pub decimal_one : (m n : ℕ) → m < 2 ^ 128 → n < 2 ^ 128 → decimal m ≡ decimal n → m ≡ n
decimal_one m n h k e =
    let wide_m : m < 10 ^ 64 = omega arith in
    let wide_n : n < 10 ^ 64 = omega arith in
    sym (decimal_is_IsNumeral_wide m wide_m).1 ∙ ap (digits_value 10) e ∙ (decimal_is_IsNumeral_wide n wide_n).1

-- digits that no digit follows are one front of a text
pub one_split : (ds bs r s : List ℕ) → list_all is_ascii_digit ds ≡ true → list_all is_ascii_digit bs ≡ true → is_end r ≡ true → is_end s ≡ true → ds ++ r ≡ bs ++ s → (ds ≡ bs) × (r ≡ s)
one_split [] [] r s p q u v e = (refl, e)
one_split [] (b ∷ bs) r s p q u v e = absurd (not_both (is_ascii_digit b) (and_left (is_ascii_digit b) (list_all is_ascii_digit bs) q) (subst (λ t. is_end t ≡ true) e u))
one_split (a ∷ ds) [] r s p q u v e = absurd (not_both (is_ascii_digit a) (and_left (is_ascii_digit a) (list_all is_ascii_digit ds) p) (subst (λ t. is_end t ≡ true) (sym e) v))
one_split (a ∷ ds) (b ∷ bs) r s p q u v e =
    let rest = one_split ds bs r s (and_right (is_ascii_digit a) (list_all is_ascii_digit ds) p) (and_right (is_ascii_digit b) (list_all is_ascii_digit bs) q) u v (tails a b (ds ++ r) (bs ++ s) e) in
    (both a b ds bs (heads a b (ds ++ r) (bs ++ s) e) rest.0, rest.1)
  where
    tails : (a b : ℕ) (x y : List ℕ) → a ∷ x ≡ b ∷ y → x ≡ y
    tails a b x y e = cc

    heads : (a b : ℕ) (x y : List ℕ) → a ∷ x ≡ b ∷ y → a ≡ b
    heads a b x y e = cc

    both : (a b : ℕ) (x y : List ℕ) → a ≡ b → x ≡ y → a ∷ x ≡ b ∷ y
    both a b x y e f = cc

-- digits at the front that spell a number
pub size_front : (text front rest : List ℕ) (n : ℕ) → front ++ rest ≡ text → list_all is_ascii_digit front ≡ true → is_end rest ≡ true → n < 2 ^ 128 → decimal n ≡ front → IsFrontOf decimal IsSize text n rest
size_front text front rest n split digits ends small e = record {
  text_is = ap (λ d. d ++ rest) e ∙ split;
  within = small;
  ends = ends;
  sole = λ m more h k f. let both = one_split (decimal m) front more rest (decimal_digits m h) digits k ends (f ∙ sym split) in (decimal_one m n h small (both.0 ∙ sym e), both.1);
}

-- digits at the front that spell no number
pub no_size : (text front rest : List ℕ) → front ++ rest ≡ text → list_all is_ascii_digit front ≡ true → is_end rest ≡ true → ((n : ℕ) → n < 2 ^ 128 → decimal n ≢ front) → HasNoFront decimal IsSize text
no_size text front rest split digits ends none m more h k f =
    none m h (one_split (decimal m) front more rest (decimal_digits m h) digits k ends (f ∙ sym split)).0

pub some_is : (m n : ℕ) → Some m ≡ Some n → m ≡ n
some_is m n e = cc

-- texts that a test tells apart differ
pub differ : (x y : List ℕ) → bytes_eq x y ≡ false → x ≡ y → ⊥
differ x y e f = true≢false (sym ((bytes_eq-Decides x y).1 f) ∙ e)

-- a number does not begin with a byte that is no digit
pub starts_with_digit : (n c : ℕ) (r more : List ℕ) → n < 2 ^ 128 → is_ascii_digit c ≡ false → decimal n ++ r ≡ c ∷ more → ⊥
starts_with_digit n c r more h other e = by (decimal n) (decimal_some n h) (decimal_digits n h) e
  where
    by : (ds : List ℕ) → 0 < length ds → list_all is_ascii_digit ds ≡ true → ds ++ r ≡ c ∷ more → ⊥
    by [] some digits f = omega arith
    by (d ∷ ds) some digits f = true≢false (sym (and_left (is_ascii_digit d) (list_all is_ascii_digit ds) digits) ∙ ap is_ascii_digit (first d c (ds ++ r) more f) ∙ other)
      where
        first : (a b : ℕ) (x y : List ℕ) → a ∷ x ≡ b ∷ y → a ≡ b
        first a b x y e = cc
