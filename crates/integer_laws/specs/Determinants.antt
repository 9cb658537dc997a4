-- Determinants of whole numbers.
use Rattle.std.specs.Prelude.{ℤ, ◌+ℤ◌, ◌-ℤ◌, ◌*ℤ◌}

abbrev pub det2 : ℤ → ℤ → ℤ → ℤ → ℤ
det2 a b c d = a *ℤ d -ℤ b *ℤ c

-- the determinant of three rows
abbrev pub det3 : ℤ → ℤ → ℤ → ℤ → ℤ → ℤ → ℤ → ℤ → ℤ → ℤ
det3 a b c d e f g h i = a *ℤ det2 e f h i +ℤ d *ℤ det2 h i b c +ℤ g *ℤ det2 b c e f
