-- Frames (axis2_placement_3d of ISO 10303-42). The bounds are rules of this project.
use Rattle.std.specs.Prelude.{Option, Result, Ok, Err, if◌then◌else◌}
use Rattle.spec_space.specs.declared.Vector.{Vector}
use Rattle.spec_place.specs.declared.fault.PlaceFault.{PlaceFault}
use Rattle.spec_place.specs.declared.fault.PlaceFault.TheVariants.{OffsetTooLarge}
use Rattle.spec_place.specs.Axes.{axes}
use Rattle.spec_place.specs.declared.transform.Transform.{Transform}
use Rattle.spec_place.specs.Transforms.{of_columns, composed, with_clamped, inverse, has_offset}

-- what is placed, or why it has no place
abbrev pub Placed : Type 0
Placed = Result Transform PlaceFault

-- first this, and then what follows from it
abbrev pub next : {T U : Type 0} → Result T PlaceFault → (T → Result U PlaceFault) → Result U PlaceFault
next (Ok x) go_on = go_on x
next (Err fault) go_on = Err fault

abbrev pub if_near : Transform → Placed
if_near t = if has_offset t then Ok t else Err OffsetTooLarge

-- the frame at a place of an axis and a reference direction
abbrev pub frame_of_axes : Vector → Option Vector → Option Vector → Placed
frame_of_axes at axis ref = next (axes axis ref) (λ a. Ok (of_columns a at))

-- the frame that stands as b within a
abbrev pub frame_then : Transform → Transform → Placed
frame_then a b = if_near (with_clamped (composed a b))

-- the frame of the world, seen from a frame
abbrev pub frame_inverse : Transform → Placed
frame_inverse t = if_near (inverse t)
