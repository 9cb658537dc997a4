-- Axes in space and in the plane (axis2_placement of ISO 10303-42). The rounding, and when axes are parallel, are rules of
-- this project.
use Rattle.std.specs.Prelude.{ℤ, pos, ◌+ℤ◌, ◌*ℤ◌, neg_ℤ, ◌^◌, Bool, false, Option, Some, None, Result, Ok, Err, unwrap_or, if◌then◌else◌}
use Rattle.spec_num.specs.Rounding.{round_of}
use Rattle.spec_space.specs.declared.Vector.{Vector}
use Rattle.spec_space.specs.Points.{minus, cross, dot}
use Rattle.spec_place.specs.declared.fault.PlaceFault.{PlaceFault}
use Rattle.spec_place.specs.declared.fault.PlaceFault.TheVariants.{Parallel}
use Rattle.spec_place.specs.declared.transform.Axes.{Axes}
use Rattle.spec_place.specs.Vectors.{each, times, divided, clamped, one, is_within, along_x, along_y, along_z}
use Rattle.spec_place.specs.Directions.{unit}

-- what is left of a direction without its part along the axis, in units of 10^-12
abbrev pub rest : Vector → Vector → Vector
rest axis r = divided (minus (times (pos (10 ^ 18)) r) (times (dot r axis) axis)) (pos (10 ^ 15))

-- it counts as nothing where each part has a size below 10^-6
abbrev pub vanishes : Vector → Bool
vanishes v = is_within 999999 v

-- what is left of the reference direction; where that is unset, of x, or of y if x is along the axis
abbrev pub reference_rest : Vector → Option Vector → Vector
reference_rest axis (Some r) = rest axis r
reference_rest axis None = if vanishes (rest axis along_x) then rest axis along_y else rest axis along_x

-- the reference direction is parallel to the axis
abbrev pub is_parallel : Vector → Option Vector → Bool
is_parallel axis (Some r) = vanishes (rest axis r)
is_parallel axis None = false

-- the direction across two others
abbrev pub across : Vector → Vector → Vector
across u v = each clamped (divided (cross u v) one)

-- the axes with z along the axis and x along another direction
abbrev pub axes_along : Vector → Vector → Axes
axes_along z x = record { x = x; y = across z x; z = z }

abbrev pub axes_of : Vector → Option Vector → Result Axes PlaceFault
axes_of axis ref = if is_parallel axis ref then Err Parallel else Ok (axes_along axis (unit (reference_rest axis ref)))

-- the axes in space of an axis, z where it is unset, and a reference direction
abbrev pub axes : Option Vector → Option Vector → Result Axes PlaceFault
axes axis ref = axes_of (unwrap_or axis along_z) ref

-- axes in the plane: the point whose coordinates along them are x and y, where they stand at a place, with the first axis
-- along the reference direction, x where it is unset, and the second a quarter turn to its left
abbrev pub plane_point : Vector → Option Vector → ℤ → ℤ → Vector
plane_point at ref x y = plane_sum at (unwrap_or ref along_x)
  where
    plane_sum : Vector → Vector → Vector
    plane_sum at u = record {
      x = at.x +ℤ round_of (u.x *ℤ x +ℤ neg_ℤ u.y *ℤ y) one;
      y = at.y +ℤ round_of (u.y *ℤ x +ℤ u.x *ℤ y) one;
      z = at.z;
    }
