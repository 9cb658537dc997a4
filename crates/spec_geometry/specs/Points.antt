-- Points and directions (ISO 10303-42 in IFC4).
use Rattle.std.specs.Prelude.{ℕ, ℤ, pos, List, [], ◌∷◌, Option, Ok}
use Rattle.spec_space.specs.declared.Vector.{Vector}
use Rattle.spec_table.specs.Sections.{DataSection}
use Rattle.spec_table.specs.Attributes.{attr_ref}
use Rattle.ifc_kinds.specs.declared.kind.Kind.TheVariants as kind
use Rattle.spec_place.specs.Vectors.{number_at}
use Rattle.spec_place.specs.Directions as directions
use Rattle.spec_refusal.specs.Reads.{Read, next}
use Rattle.spec_entity.specs.Reads.{as_read, instance_of_kinds, named_instance, each}
use Rattle.spec_entity.specs.Points.{two_or_three, ratio}
use Rattle.spec_geometry.specs.Files.{File, length, placed, if_some}

-- the first two of some numbers, and the third, 0 where there is none
abbrev pub in_space : List ℤ → Vector
in_space ns = record { x = number_at ns 0; y = number_at ns 1; z = number_at ns 2 }

-- the first two alone
abbrev pub in_plane : List ℤ → Vector
in_plane ns = record { x = number_at ns 0; y = number_at ns 1; z = pos 0 }

-- IfcCartesianPoint, in nanometres
abbrev pub coordinates : File → ℕ → Read (List ℤ)
coordinates file n = next (two_or_three file.section n) (each (length file n 1))

abbrev pub point : File → ℕ → Read Vector
point file n = next (coordinates file n) (λ xs. Ok (in_space xs))

abbrev pub plane_point : File → ℕ → Read Vector
plane_point file n = next (coordinates file n) (λ xs. Ok (in_plane xs))

-- the point that a wanted attribute names
abbrev pub named_point : File → ℕ → ℕ → Read Vector
named_point file at position = next (named_instance file.section (kind.CartesianPoint ∷ []) at position) (point file)

-- the ratios of an IfcDirection, in units of 10^-12
abbrev pub ratios : DataSection → ℕ → Read (List ℤ)
ratios section n = next (two_or_three section n) (each (ratio section n))

-- IfcDirection, in units of 10^-9
abbrev pub direction : DataSection → ℕ → Read Vector
direction section n = next (ratios section n) (λ rs. placed n (directions.direction (in_space rs)))

abbrev pub plane_direction : DataSection → ℕ → Read Vector
plane_direction section n = next (ratios section n) (λ rs. placed n (directions.direction (in_plane rs)))

-- the direction that an attribute names, if it is set, in space or in the plane
abbrev pub if_direction : (DataSection → ℕ → Read Vector) → DataSection → ℕ → ℕ → Read (Option Vector)
if_direction read section at position =
    next (as_read (attr_ref section at position)) (λ o.
    if_some (λ n. next (instance_of_kinds section (kind.Direction ∷ []) n) (read section)) o)
