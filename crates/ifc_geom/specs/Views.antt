-- What the answers of the reader stand for in the definitions.
use Rattle.std.specs.Prelude.{ℕ, nat_le, List, [], ◌∷◌, map, Result, Ok, Err}
use Rattle.spec_table.specs.Sections.{DataSection}
use Rattle.ifc_kinds.specs.declared.kind.Kind.{Kind}
use Rattle.ifc_kinds.specs.declared.kind.Kind.TheVariants as kind
use Rattle.spec_refusal.specs.declared.Refusal.{Refusal}
use Rattle.spec_refusal.specs.declared.Refusal.TheVariants.{TooDeep}
use Rattle.spec_refusal.specs.Reads.{Read, only_if}
use Rattle.spec_entity.specs.Reads.{instance_of_kinds}
use Rattle.spec_shape.specs.Shapes.{Shape}
use Rattle.spec_geometry.specs.Profiles.{Counted}
use Rattle.solid_expr.specs.declared.solid.Solid.{Solid}
use Rattle.solid_expr.specs.Views.{shape_of}
use Rattle.ifc_numbers.specs.declared.faults.ItemFault.{ItemFault}
use Rattle.ifc_numbers.specs.Answers.{ReadsAs}

abbrev pub shape_and_count : Solid × ℕ → Shape × ℕ
shape_and_count read = (shape_of read.0, read.1)

-- the solid and the count are those of the definition, or memory is wanting
abbrev pub ReadsSolid : Result (Solid × ℕ) ItemFault → Counted Shape → Type 0
ReadsSolid result wanted = ReadsAs shape_and_count result wanted

abbrev pub shapes_and_count : List Solid × ℕ → List Shape × ℕ
shapes_and_count read = (map shape_of read.0, read.1)

-- the same of solids
abbrev pub ReadsSolids : Result (List Solid × ℕ) ItemFault → Counted (List Shape) → Type 0
ReadsSolids result wanted = ReadsAs shapes_and_count result wanted

-- the same of an answer that takes no memory
abbrev pub plain_solid : Result (Solid × ℕ) Refusal → Counted Shape
plain_solid (Ok read) = Ok (shape_and_count read)
plain_solid (Err refusal) = Err refusal

-- the kinds of solids that take memory: all but the half-spaces that have no bounds
abbrev pub memory_kinds : List Kind
memory_kinds =
    kind.ExtrudedAreaSolid ∷ kind.Block ∷ kind.FacetedBrep ∷ kind.FacetedBrepWithVoids ∷ kind.PolygonalBoundedHalfSpace
    ∷ kind.BooleanResult ∷ kind.BooleanClippingResult ∷ kind.CsgSolid ∷ kind.MappedItem ∷ []

-- an instance that has one of them, where so many solids may stand one in another
abbrev pub takes_memory : ℕ → DataSection → ℕ → Read ℕ
takes_memory deeper section n = only_if (nat_le 1 deeper) (TooDeep n) (instance_of_kinds section memory_kinds n)
