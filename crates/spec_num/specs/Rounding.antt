-- Rounding to whole numbers. A rule of this project: a half is rounded up, below zero too.
use Rattle.std.specs.Prelude.{ℕ, ℤ, pos, ◌+◌, ◌*◌, ◌/◌, ◌+ℤ◌, ◌*ℤ◌}
use Rattle.std.specs.Int.{int_div_euclid}

-- the fraction a / b rounded to the nearest whole number: the floor of (2a + b) / (2b), for b above 0
abbrev pub round_of : ℤ → ℤ → ℤ
round_of a b = int_div_euclid (pos 2 *ℤ a +ℤ b) (pos 2 *ℤ b)

-- the same for sizes
abbrev pub rounded_size : ℕ → ℕ → ℕ
rounded_size a b = (2 * a + b) / (2 * b)
