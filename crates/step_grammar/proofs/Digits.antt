-- The digits of a number's token, and their value.
use Rattle.std.proofs.Common.{◌≡◌, ℕ, ◌+◌, ◌*◌, ◌-◌, ◌^◌, ◌<◌, ◌≤◌, zero, suc, true, false, ◌==◌, ◌&&◌, List, [], ◌∷◌, ◌++◌, length, take, drop, get_or, All, refl, sym, ◌∙◌, nat_le, ap, arith, lit<}
use Rattle.std.proofs.Math.Nat.{pow-le-pow_right}
use Rattle.std.proofs.lemmas.Grind.{pow_more}
use Rattle.std.proofs.lemmas.List.{take_more}
use Rattle.std.proofs.lemmas.List.Elements.{All-cons}
use Rattle.std.proofs.lemmas.Bool.{true≢false, and_parts, leb-true}
use Rattle.std.specs.Char.{is_ascii_digit, IsAsciiDigit}
use Rattle.spec_num.specs.Decimals.{value, value_after}
use Rattle.spec_step.specs.Spelling.{is_spelled, up_to, no_bytes}
use Rattle.spec_step.specs.declared.token.TokenKind.TheVariants as kind

pub value_after-append : (n : ℕ) (cs ds : List ℕ) → value_after n (cs ++ ds) ≡ value_after (value_after n cs) ds
value_after-append n [] ds = refl
value_after-append n (c ∷ cs) ds = value_after-append (n * 10 + (c - 48)) cs ds

-- one digit more
pub value_more : (cs : List ℕ) (i : ℕ) → i < length cs → value (take (i + 1) cs) ≡ value (take i cs) * 10 + (get_or cs i 0 - 48)
value_more cs i lt = ap value (take_more cs i 0 lt) ∙ value_after-append 0 (take i cs) (get_or cs i 0 ∷ [])

pub below_power : (n i d : ℕ) → n < 10 ^ i → d ≤ 9 → n * 10 + d < 10 ^ (i + 1)
below_power n i d h k =
    rw (pow_more 10 i) (omega arith)

-- a number of few digits, and one digit more
pub few_digits : (n i d m : ℕ) → n < 10 ^ i → d ≤ 9 → i < m → n * 10 + d < 10 ^ m
few_digits n i d m h k few =
    let e : n * 10 + d < 10 ^ (i + 1) = below_power n i d h k in
    let le : i + 1 ≤ m = omega arith in
    let up : 10 ^ (i + 1) ≤ 10 ^ m = pow-le-pow_right (lit< tt) le in
    omega arith

abbrev pub FewDigits : ℕ → List ℕ → Type 0
FewDigits n bs = All IsAsciiDigit bs × (length bs ≤ n)

digit_bounds : (b : ℕ) → is_ascii_digit b ≡ true → (48 ≤ b) × (b ≤ 57)
digit_bounds b h =
    let parts = and_parts (nat_le 48 b) (nat_le b 57) h in
    (leb-true 48 b parts.0, leb-true b 57 parts.1)

digits_cons : (n b : ℕ) (bs : List ℕ) → is_ascii_digit b ≡ true → FewDigits n bs → FewDigits (suc n) (b ∷ bs)
digits_cons n b bs h few = (All-cons IsAsciiDigit b bs (digit_bounds b h) few.0, omega (arith, few.1))

up_to_digits : (n : ℕ) (bs : List ℕ) → up_to n is_ascii_digit no_bytes bs ≡ true → FewDigits n bs
up_to_digits zero [] h = (λ k d lt. absurd (omega arith), omega arith)
up_to_digits zero (b ∷ bs) h = absurd (true≢false (sym h))
up_to_digits (suc n) [] h = (λ k d lt. absurd (omega arith), omega arith)
up_to_digits (suc n) (b ∷ bs) h =
    let parts = and_parts (is_ascii_digit b) (up_to n is_ascii_digit no_bytes bs) h in
    digits_cons n b bs parts.0 (up_to_digits n bs parts.1)

-- behind the mark of a number's token stand at most 18 digits
pub number_digits : (text : List ℕ) → is_spelled kind.Number text ≡ true → FewDigits 18 (drop 1 text)
number_digits [] h = absurd (true≢false (sym h))
number_digits (b ∷ []) h = absurd (true≢false (sym (and_parts (b == 35) false h).1))
number_digits (b ∷ c ∷ cs) h =
    let parts = and_parts (b == 35) (is_ascii_digit c && up_to 17 is_ascii_digit no_bytes cs) h in
    let digits = and_parts (is_ascii_digit c) (up_to 17 is_ascii_digit no_bytes cs) parts.1 in
    digits_cons 17 c cs digits.0 (up_to_digits 17 cs digits.1)
