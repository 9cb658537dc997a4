-- Maps: transformation operators (cartesian_transformation_operator_3d of ISO 10303-42), and corners on the grid. The rounding,
-- the bounds and the sign of the second axis are rules of this project.
use Rattle.std.specs.Prelude.{ℕ, ℤ, pos, ◌*◌, ◌^◌, Bool, ◌&&◌, int_le, int_lt, Option, Ok, Err, unwrap_or, if◌then◌else◌}
use Rattle.spec_space.specs.declared.Vector.{Vector}
use Rattle.spec_space.specs.Points.{dot}
use Rattle.spec_place.specs.declared.fault.PlaceFault.TheVariants.{ScaleOutOfRange}
use Rattle.spec_place.specs.Vectors.{times, divided, reversed, along_y}
use Rattle.spec_place.specs.declared.transform.Axes.{Axes}
use Rattle.spec_place.specs.Axes.{axes}
use Rattle.spec_place.specs.declared.transform.Transform.{Transform}
use Rattle.spec_place.specs.Transforms.{of_columns, image, composed, has_entries_within}
use Rattle.spec_place.specs.Frames.{Placed, next, if_near}

-- the map that stands as b within a
abbrev pub map_then : Transform → Transform → Placed
map_then a b = if has_entries_within (10 ^ 12) (composed a b) then if_near (composed a b) else Err ScaleOutOfRange

-- the three scales of an operator, decimals in units of 10^-12: the first is 1 where it is unset, the others are as the first
abbrev pub scales : Option ℤ → Option ℤ → Option ℤ → Vector
scales first second third = by (unwrap_or first (pos (10 ^ 12)))
  where
    by : ℤ → Vector
    by s = record { x = s; y = unwrap_or second s; z = unwrap_or third s }

-- a scale is from 0.001 to 1000
abbrev pub is_scale : ℤ → Bool
is_scale s = int_le (pos (10 ^ 9)) s && int_le s (pos (10 ^ 15))

abbrev pub are_scales : Vector → Bool
are_scales s = is_scale s.x && is_scale s.y && is_scale s.z

-- the direction, or its opposite where that is the side of the other one
abbrev pub turned_to : Vector → Vector → Vector
turned_to side v = if int_lt (dot side v) (pos 0) then reversed v else v

-- an axis times a scale
abbrev pub stretched : Vector → ℤ → Vector
stretched axis scale = divided (times scale axis) (pos (10 ^ 12))

-- the three axes times their scales, the second on the side of another vector
abbrev pub scaled_axes : Axes → Vector → Vector → Axes
scaled_axes a side s = record { x = stretched a.x s.x; y = stretched (turned_to side a.y) s.y; z = stretched a.z s.z }

-- the operator at a place with Axis1, Axis2, Axis3 and three scales; Axis2 is y where it is unset
abbrev pub operator_map : Vector → Option Vector → Option Vector → Option Vector → Vector → Placed
operator_map at first second third s =
    if are_scales s then next (axes third first) (λ a. Ok (of_columns (scaled_axes a (unwrap_or second along_y) s) at)) else Err ScaleOutOfRange

-- the corner of a point in nanometres under a map, in grid steps of so many micrometres
abbrev pub corner : Transform → ℕ → Vector → Vector
corner m step p = divided (image m p) (pos (10 ^ 12 * step))
