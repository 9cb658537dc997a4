-- What the answers of the reader stand for in the definitions.
use Rattle.std.specs.Prelude.{ℕ, List, map, Vec, Option, Result, Ok, Err}
use Rattle.std.specs.Borrow.{Bor}
use Rattle.std.specs.Option.{option_map}
use Rattle.spec_step.specs.declared.tree.Param.{Param}
use Rattle.spec_refusal.specs.declared.Refusal.{Refusal}
use Rattle.spec_refusal.specs.Reads.{Read}
use Rattle.spec_shape.specs.Shapes.{ShapeItem, ElementShape}
use Rattle.spec_entity.specs.Elements.{Representation}
use Rattle.spec_geometry.specs.Profiles.{Counted}
use Rattle.solid_expr.specs.declared.solid.Item.{Item}
use Rattle.solid_expr.specs.declared.solid.ElementSolid.{ElementSolid}
use Rattle.solid_expr.specs.Views.{item_of, element_of}
use Rattle.ifc_numbers.specs.declared.faults.ItemFault.{ItemFault}
use Rattle.ifc_numbers.specs.Answers.{ReadsAs}

-- an answer that lends a list of parameters
abbrev pub plain_pair : ℕ × Bor (List Param) → Representation
plain_pair c = (c.0, c.1.now)

abbrev pub plain_representation : Result (Option (ℕ × Bor (List Param))) Refusal → Read (Option Representation)
plain_representation (Ok o) = Ok (option_map plain_pair o)
plain_representation (Err refusal) = Err refusal

-- the items and the count are those of the definition, or memory is wanting
abbrev pub ReadsItems : {A : Type 0} → Result (Vec Item A × ℕ) ItemFault → Counted (List ShapeItem) → Type 0
ReadsItems result wanted = ReadsAs (λ read. (map item_of read.0.items, read.1)) result wanted

-- the element is that of the definition, or memory is wanting
abbrev pub ReadsBody : Result (Option ElementSolid) ItemFault → Read (Option ElementShape) → Type 0
ReadsBody result wanted = ReadsAs (option_map element_of) result wanted
