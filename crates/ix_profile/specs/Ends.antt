-- The ends of an extent.
use Rattle.std.specs.Prelude.{◌≤◌, ◌^◌, unsigned_abs}
use Rattle.ix_profile.specs.declared.span.Span.{Span}

-- no end has a size above 10^16 nanometres
pub record AreEnds (span : Span) : Type 0 where
  pub lower : unsigned_abs span.lower ≤ 10 ^ 16
  pub upper : unsigned_abs span.upper ≤ 10 ^ 16
