-- Elements (IFC4): their representation, their placement, their items, their openings.
use Rattle.std.specs.Prelude.{ℕ, List, [], ◌∷◌, ◌++◌, Option, Some, None, Ok}
use Rattle.std.specs.List.{filter}
use Rattle.spec_step.specs.declared.tree.Param.{Param}
use Rattle.spec_table.specs.Sections.{DataSection}
use Rattle.ifc_kinds.specs.declared.kind.Kind.{Kind}
use Rattle.ifc_kinds.specs.declared.kind.Kind.TheVariants as kind
use Rattle.spec_place.specs.declared.transform.Transform.{Transform}
use Rattle.spec_place.specs.Transforms.{identity}
use Rattle.spec_place.specs.Chains.{Link}
use Rattle.spec_refusal.specs.Reads.{Read, next}
use Rattle.spec_shape.specs.Shapes.{ShapeItem, ElementShape}
use Rattle.spec_entity.specs.Reads.{numbers_of, named_instance, member_instance}
use Rattle.spec_entity.specs.Elements.{Representation, representation, voids}
use Rattle.spec_geometry.specs.Files.{File}
use Rattle.spec_geometry.specs.Profiles.{Counted}
use Rattle.spec_geometry.specs.Breps.{each_counted}
use Rattle.spec_geometry.specs.Solids.{solid, most_depth}
use Rattle.spec_geometry.specs.Placements.{chain, world_frame, opening_frame}

-- an item of a representation under a map
abbrev pub item : File → ℕ → Transform → Param → ℕ → Counted ShapeItem
item file representation map p count =
    next (member_instance file.section representation 4 p) (λ n.
    next (solid most_depth file n map count) (λ read. Ok (record { at = n; shape = read.0 }, read.1)))

-- the items of a representation under a map
abbrev pub items : File → Representation → Transform → ℕ → Counted (List ShapeItem)
items file r map count = each_counted (item file r.0 map) r.1 count

-- Openings.

-- the relations that void an element, in file order
abbrev pub voiding : DataSection → ℕ → List ℕ
voiding section element = filter (voids section element) (numbers_of section)

abbrev pub opening_kinds : List Kind
opening_kinds = kind.OpeningElement ∷ kind.OpeningStandardCase ∷ []

-- the items of an opening's body, in the frame of its element; an opening without a body adds nothing
abbrev pub items_of_opening : File → List Link → ℕ → ℕ → Option Representation → Counted (List ShapeItem)
items_of_opening file element opening count None = Ok ([], count)
items_of_opening file element opening count (Some r) =
    next (chain file opening) (λ own. next (opening_frame opening element own) (λ frame. items file r frame count))

-- the items of the opening of a relation
abbrev pub opening_items : File → List Link → ℕ → ℕ → Counted (List ShapeItem)
opening_items file element relation count =
    next (named_instance file.section opening_kinds relation 6) (λ opening.
    next (representation file.section opening) (items_of_opening file element opening count))

-- those of one relation after the other
abbrev pub openings : File → List Link → List ℕ → ℕ → Counted (List ShapeItem)
openings file element [] count = Ok ([], count)
openings file element (r ∷ rs) count =
    next (opening_items file element r count) (λ own. next (openings file element rs own.1) (λ more. Ok (own.0 ++ more.0, more.1)))

-- The body of an element.

abbrev pub shape_of_body : File → ℕ → Option Representation → Read (Option ElementShape)
shape_of_body file element None = Ok None
shape_of_body file element (Some r) =
    next (chain file element) (λ links.
    next (world_frame links) (λ frame.
    next (items file r identity 0) (λ own.
    next (openings file links (voiding file.section element) own.1) (λ cut.
    Ok (Some (record { items = own.0; openings = cut.0; frame = frame }))))))

-- the solids of an element and its openings, none where it has no body, or the first refusal
abbrev pub element_body : File → ℕ → Read (Option ElementShape)
element_body file element = next (representation file.section element) (shape_of_body file element)
