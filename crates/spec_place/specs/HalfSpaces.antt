-- The plane of a half-space (IfcHalfSpaceSolid) on the grid. A rule of this project.
use Rattle.std.specs.Prelude.{ℕ, pos, ◌*◌, ◌^◌, Bool, not, Result, Ok}
use Rattle.spec_space.specs.declared.Vector.{Vector}
use Rattle.spec_space.specs.declared.Plane.{Plane}
use Rattle.spec_space.specs.Points.{cross, dot}
use Rattle.spec_place.specs.declared.fault.PlaceFault.{PlaceFault}
use Rattle.spec_place.specs.declared.half.HalfSpace.{HalfSpace}
use Rattle.spec_place.specs.Vectors.{divided}
use Rattle.spec_place.specs.Directions.{direction}
use Rattle.spec_place.specs.declared.transform.Transform.{Transform}
use Rattle.spec_place.specs.Transforms.{first_column, second_column, third_column}
use Rattle.spec_place.specs.Frames.{next}
use Rattle.spec_place.specs.Maps.{turned_to}

-- across the images of the first two axes, in units of 10^-12
abbrev pub raw_normal : Vector → Vector → Vector
raw_normal u v = divided (cross u v) (pos (10 ^ 6))

-- the unit normal of the plane that a map makes of the plane z = 0, on the side of the image of the third axis
abbrev pub plane_normal : Transform → Result Vector PlaceFault
plane_normal m =
    next (direction (first_column m)) (λ u.
    next (direction (second_column m)) (λ v.
    next (direction (raw_normal u v)) (λ n. Ok (turned_to (third_column m) n))))

-- the place of the plane, in grid steps of so many micrometres
abbrev pub location : Transform → ℕ → Vector
location m step = divided m.off (pos (1000 * step))

-- the plane of a normal through a corner
abbrev pub plane_through : Vector → Vector → Plane
plane_through n c = record { a = n.x; b = n.y; c = n.z; d = dot n c }

-- the half-space of a plane by its map; with AgreementFlag the material is on the side away from the normal, which is behind
abbrev pub half_space : Transform → ℕ → Bool → Result HalfSpace PlaceFault
half_space m step agreement =
    next (plane_normal m) (λ n. Ok (record { plane = plane_through (divided n (pos 100)) (location m step); in_front = not agreement; corner = location m step }))
