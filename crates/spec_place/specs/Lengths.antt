-- Units of length (IfcSIUnit, IfcConversionBasedUnit), and lengths in nanometres. The rounding and the bounds are rules of
-- this project.
use Rattle.std.specs.Prelude.{ℤ, pos, ◌*ℤ◌, ◌≤ℤ◌, ◌^◌, Bool, ◌&&◌, nat_le, int_le, unsigned_abs, Option, Some, None, if◌then◌else◌}
use Rattle.spec_num.specs.Rounding.{round_of}
use Rattle.spec_place.specs.declared.prefix.Prefix.{Prefix}
use Rattle.spec_place.specs.declared.prefix.Prefix.TheVariants.{Kilo, Hecto, Deca, Deci, Centi, Milli, Micro}

-- the metre with a prefix, in nanometres
abbrev pub metre : Option Prefix → ℤ
metre None = pos (10 ^ 9)
metre (Some Kilo) = pos (10 ^ 12)
metre (Some Hecto) = pos (10 ^ 11)
metre (Some Deca) = pos (10 ^ 10)
metre (Some Deci) = pos (10 ^ 8)
metre (Some Centi) = pos (10 ^ 7)
metre (Some Milli) = pos (10 ^ 6)
metre (Some Micro) = pos (10 ^ 3)

-- a decimal of v units of 10^-12, over a unit of so many nanometres
abbrev pub nanometres : ℤ → ℤ → ℤ
nanometres unit v = round_of (v *ℤ unit) (pos (10 ^ 12))

-- a unit of length has from 1 to 10^12 nanometres
abbrev pub is_unit : ℤ → Bool
is_unit k = int_le (pos 1) k && int_le k (pos (10 ^ 12))

pub record IsUnit (k : ℤ) : Type 0 where
  pub low : pos 1 ≤ℤ k
  pub high : k ≤ℤ pos (10 ^ 12)

-- the unit of a conversion factor of c units of 10^-12 over another unit, if it is one
abbrev pub converted : ℤ → ℤ → Option ℤ
converted unit c = if is_unit (nanometres unit c) then Some (nanometres unit c) else None

-- the length of a decimal, if its size is at most 10^16 nanometres
abbrev pub length_of : ℤ → ℤ → Option ℤ
length_of unit v = if nat_le (unsigned_abs (nanometres unit v)) (10 ^ 16) then Some (nanometres unit v) else None
