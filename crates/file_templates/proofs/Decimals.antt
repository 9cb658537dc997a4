-- Numbers in decimal are spelled as tokens: numbers of instances, and reals with a point behind them.
use Rattle.std.proofs.Common.{◌≡◌, ℕ, ◌+◌, ◌-◌, ◌*◌, ◌/◌, ◌%◌, ◌^◌, ◌<◌, ◌≤◌, zero, suc, ℤ, pos, negsuc, unsigned_abs, Bool, true, false, ◌==◌, ◌&&◌, ◌||◌, List, [], ◌∷◌, ◌++◌, length, refl, sym, ◌∙◌, ap, arith}
use Rattle.std.proofs.lemmas.Bool.{true≢false, and_parts}
use Rattle.std.proofs.lemmas.Bool.Decides.{nat_tests}
use Rattle.std.proofs.lemmas.Fmt.{decimal_by_steps_wide, length-decimal-le_wide}
use Rattle.std.specs.Char.{is_ascii_digit}
use Rattle.std.specs.Fmt.{decimal, signed_decimal}
use Rattle.std.specs.List.{list_all}
use Rattle.spec_num.specs.Decimals.{value_after, value, is_sign}
use Rattle.spec_step.specs.Spelling.{no_bytes, one, many, some, up_to, fraction, is_spelled}
use Rattle.spec_step.specs.declared.token.TokenKind.TheVariants as kind

-- Digits.

-- at least one digit and nothing else
pub record AreDigits (bytes : List ℕ) : Type 0 where
  pub some : 0 < length bytes
  pub digits : list_all is_ascii_digit bytes ≡ true

digit : (d : ℕ) → d < 10 → is_ascii_digit (48 + d) ≡ true
digit d h = grind (arith, nat_tests)

digits_more : (xs : List ℕ) (c : ℕ) → list_all is_ascii_digit xs ≡ true → is_ascii_digit c ≡ true → list_all is_ascii_digit (xs ++ c ∷ []) ≡ true
digits_more [] c h e = ap (λ b. b && true) e
digits_more (x ∷ xs) c h e =
    let p = and_parts (is_ascii_digit x) (list_all is_ascii_digit xs) h in
    ap (λ b. b && list_all is_ascii_digit (xs ++ c ∷ [])) p.0 ∙ digits_more xs c p.1 e

length_more : (xs : List ℕ) (c : ℕ) → 0 < length (xs ++ c ∷ [])
length_more [] c = omega arith
length_more (x ∷ xs) c = omega arith

pub decimal_digits : (n : ℕ) → n < 10 ^ 64 → AreDigits (decimal n)
decimal_digits = decimal_by_steps_wide (λ n ds. AreDigits ds)
    (λ n h. record { some = omega arith; digits = ap (λ b. b && true) (digit n h) })
    (λ n ds h k. record { some = length_more ds (48 + n % 10); digits = digits_more ds (48 + n % 10) k.digits (digit (n % 10) (omega arith)) })

value_more : (xs : List ℕ) (c n : ℕ) → value_after n (xs ++ c ∷ []) ≡ value_after n xs * 10 + (c - 48)
value_more [] c n = refl
value_more (x ∷ xs) c n = value_more xs c (n * 10 + (x - 48))

step_value : (n v w : ℕ) → v ≡ n / 10 → w ≡ v * 10 + ((48 + n % 10) - 48) → w ≡ n
step_value n v w e f = omega arith

pub decimal_value : (n : ℕ) → n < 10 ^ 64 → value (decimal n) ≡ n
decimal_value = decimal_by_steps_wide (λ n ds. value ds ≡ n)
    (λ n h. omega arith)
    (λ n ds h e. step_value n (value ds) (value (ds ++ (48 + n % 10) ∷ [])) e (value_more ds (48 + n % 10) 0))

-- Numbers of instances.

-- a number of at most 18 digits
abbrev pub IsShortNumber : ℕ → Type 0
IsShortNumber n = n < 10 ^ 18

up_to_digits : (k : ℕ) (ds : List ℕ) → length ds ≤ k → list_all is_ascii_digit ds ≡ true → up_to k is_ascii_digit no_bytes ds ≡ true
up_to_digits zero [] h e = refl
up_to_digits zero (d ∷ ds) h e = absurd (omega arith)
up_to_digits (suc k) [] h e = refl
up_to_digits (suc k) (d ∷ ds) h e =
    let p = and_parts (is_ascii_digit d) (list_all is_ascii_digit ds) e in
    ap (λ b. b && up_to k is_ascii_digit no_bytes ds) p.0 ∙ up_to_digits k ds (omega arith) p.1

digits_spelled : (ds : List ℕ) → AreDigits ds → length ds ≤ 18 → is_spelled kind.Number (35 ∷ ds) ≡ true
digits_spelled [] h k = absurd (omega (arith, h.some))
digits_spelled (d ∷ ds) h k =
    let p = and_parts (is_ascii_digit d) (list_all is_ascii_digit ds) h.digits in
    ap (λ b. b && up_to 17 is_ascii_digit no_bytes ds) p.0 ∙ up_to_digits 17 ds (omega arith) p.1

pub number_spelled : (n : ℕ) → IsShortNumber n → is_spelled kind.Number (35 ∷ decimal n) ≡ true
number_spelled n h = digits_spelled (decimal n) (decimal_digits n (omega arith)) (length-decimal-le_wide 18 n (omega arith) h (omega arith))

-- Reals.

either_left : (a b : Bool) → a ≡ true → (a || b) ≡ true
either_left true b e = refl
either_left false b e = absurd (true≢false (sym e))

either_right : (a b : Bool) → b ≡ true → (a || b) ≡ true
either_right true b e = refl
either_right false b e = e

many_pointed : (ds : List ℕ) → list_all is_ascii_digit ds ≡ true → many is_ascii_digit (one (λ b. b == 46) fraction) (ds ++ 46 ∷ []) ≡ true
many_pointed [] e = refl
many_pointed (d ∷ ds) e =
    let p = and_parts (is_ascii_digit d) (list_all is_ascii_digit ds) e in
    either_right (one (λ b. b == 46) fraction (d ∷ (ds ++ 46 ∷ []))) (is_ascii_digit d && many is_ascii_digit (one (λ b. b == 46) fraction) (ds ++ 46 ∷ []))
    (ap (λ b. b && many is_ascii_digit (one (λ b. b == 46) fraction) (ds ++ 46 ∷ [])) p.0 ∙ many_pointed ds p.1)

some_pointed : (ds : List ℕ) → AreDigits ds → some is_ascii_digit (one (λ b. b == 46) fraction) (ds ++ 46 ∷ []) ≡ true
some_pointed [] h = absurd (omega (arith, h.some))
some_pointed (d ∷ ds) h =
    let p = and_parts (is_ascii_digit d) (list_all is_ascii_digit ds) h.digits in
    ap (λ b. b && many is_ascii_digit (one (λ b. b == 46) fraction) (ds ++ 46 ∷ [])) p.0 ∙ many_pointed ds p.1

-- digits and a point are a real, and with a minus before them too
pub pointed_spelled : (ds : List ℕ) → AreDigits ds → is_spelled kind.Real (ds ++ 46 ∷ []) ≡ true
pointed_spelled ds h =
    either_left (some is_ascii_digit (one (λ b. b == 46) fraction) (ds ++ 46 ∷ [])) (one is_sign (some is_ascii_digit (one (λ b. b == 46) fraction)) (ds ++ 46 ∷ [])) (some_pointed ds h)

pub decimal_spelled : (n : ℕ) → n < 10 ^ 64 → is_spelled kind.Real (decimal n ++ 46 ∷ []) ≡ true
decimal_spelled n h = pointed_spelled (decimal n) (decimal_digits n h)

pub signed_spelled : (z : ℤ) → unsigned_abs z < 10 ^ 64 → is_spelled kind.Real (signed_decimal z ++ 46 ∷ []) ≡ true
signed_spelled (pos n) h = decimal_spelled n h
signed_spelled (negsuc n) h = some_pointed (decimal (suc n)) (decimal_digits (suc n) h)
