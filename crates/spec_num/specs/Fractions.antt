-- How two fractions compare.
use Rattle.std.specs.Prelude.{ℤ, ◌*ℤ◌}
use Rattle.std.specs.Ordering.{int_cmp}
use Rattle.std.specs.declared.cmp.Ordering.{Ordering}

-- the order of the fractions a / b and c / d, for b and d above 0
abbrev pub fraction_cmp : ℤ → ℤ → ℤ → ℤ → Ordering
fraction_cmp a b c d = int_cmp (a *ℤ d) (c *ℤ b)
