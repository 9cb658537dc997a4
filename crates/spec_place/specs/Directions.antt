-- Directions (ISO 10303-42), in units of 10^-9. The rounding is a rule of this project.
use Rattle.std.specs.Prelude.{ℤ, pos, ◌*ℤ◌, unsigned_abs, Result, Ok, Err, if◌then◌else◌}
use Rattle.spec_num.specs.Rounding.{round_of}
use Rattle.spec_num.specs.Roots.{whole_root}
use Rattle.spec_space.specs.declared.Vector.{Vector}
use Rattle.spec_space.specs.Points.{dot}
use Rattle.spec_place.specs.declared.fault.PlaceFault.{PlaceFault}
use Rattle.spec_place.specs.declared.fault.PlaceFault.TheVariants.{ZeroDirection}
use Rattle.spec_place.specs.Vectors.{each, one, clamped, is_zero}

-- the whole length of a vector
abbrev pub magnitude : Vector → ℤ
magnitude v = pos (whole_root (unsigned_abs (dot v v)))

-- the unit vector of one that is not zero
abbrev pub unit : Vector → Vector
unit v = each (λ n. clamped (round_of (one *ℤ n) (magnitude v))) v

-- the direction of three ratios
abbrev pub direction : Vector → Result Vector PlaceFault
direction v = if is_zero v then Err ZeroDirection else Ok (unit v)
