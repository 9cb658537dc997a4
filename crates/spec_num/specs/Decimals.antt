-- Decimal texts (integer and real of ISO 10303-21) and the counts of units of 10^-12 that they stand for.
use Rattle.std.specs.Prelude.{ℕ, ℤ, pos, ◌+◌, ◌-◌, ◌*◌, ◌^◌, ◌==◌, ◌||◌, neg_ℤ, Bool, false, List, [], ◌∷◌, ◌++◌, length, drop, if◌then◌else◌}
use Rattle.std.specs.List.{take_while, prefix_len}
use Rattle.std.specs.Char.{is_ascii_digit}
use Rattle.spec_num.specs.Rounding.{rounded_size}

-- a plus or a minus
abbrev pub is_sign : ℕ → Bool
is_sign b = (b == 43) || (b == 45)

-- the letter before an exponent; the small one is a leniency of this project
abbrev pub is_exponent : ℕ → Bool
is_exponent b = (b == 69) || (b == 101)

-- a minus stands at the front
abbrev pub is_negative : List ℕ → Bool
is_negative [] = false
is_negative (b ∷ bs) = b == 45

-- what stands behind a byte that passes, or all where none stands at the front
abbrev pub behind : (ℕ → Bool) → List ℕ → List ℕ
behind p [] = []
behind p (b ∷ bs) = if p b then bs else b ∷ bs

-- the digits at the front, and what stands behind them
abbrev pub digits : List ℕ → List ℕ
digits text = take_while is_ascii_digit text

abbrev pub behind_digits : List ℕ → List ℕ
behind_digits text = drop (prefix_len is_ascii_digit text) text

-- the parts of a decimal text: sign, digits, a point, digits, a letter E, sign, digits
abbrev pub unsigned : List ℕ → List ℕ
unsigned text = behind is_sign text

abbrev pub whole_digits : List ℕ → List ℕ
whole_digits text = digits (unsigned text)

abbrev pub behind_point : List ℕ → List ℕ
behind_point text = behind (λ b. b == 46) (behind_digits (unsigned text))

abbrev pub fraction_digits : List ℕ → List ℕ
fraction_digits text = digits (behind_point text)

abbrev pub exponent : List ℕ → List ℕ
exponent text = behind is_exponent (behind_digits (behind_point text))

abbrev pub exponent_digits : List ℕ → List ℕ
exponent_digits text = digits (unsigned (exponent text))

-- the number in decimal whose digits are those of n and then these
abbrev pub value_after : ℕ → List ℕ → ℕ
value_after n [] = n
value_after n (c ∷ cs) = value_after (n * 10 + (c - 48)) cs

-- the number of these digits
abbrev pub value : List ℕ → ℕ
value cs = value_after 0 cs

-- the size of the value in units of 10^-12 is the fraction a / b: the digits of the mantissa, times and by powers of ten
abbrev pub units_above : List ℕ → ℕ
units_above text =
    value (whole_digits text ++ fraction_digits text) * 10 ^ (12 + (if is_negative (exponent text) then 0 else value (exponent_digits text)))

abbrev pub units_below : List ℕ → ℕ
units_below text =
    10 ^ (length (fraction_digits text) + (if is_negative (exponent text) then value (exponent_digits text) else 0))

-- that size as the nearest whole number of units, a half rounded up in size
abbrev pub size_units : List ℕ → ℕ
size_units text = rounded_size (units_above text) (units_below text)

-- the decimal text's count of units of 10^-12
abbrev pub decimal_units : List ℕ → ℤ
decimal_units text = if is_negative text then neg_ℤ (pos (size_units text)) else pos (size_units text)

-- the greatest size that is read: the value 10^9
abbrev pub most_units : ℕ
most_units = 10 ^ 21
