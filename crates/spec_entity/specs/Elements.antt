-- Elements (IFC4): which they are, their representation, and what voids them.
use Rattle.std.specs.Prelude.{ℕ, Bool, false, ◌&&◌, nat_eq, List, [], ◌∷◌, Option, Some, None, Ok, Err, codes, if◌then◌else◌}
use Rattle.std.specs.List.{filter}
use Rattle.std.specs.Str.{bytes_eq}
use Rattle.spec_step.specs.declared.tree.Param.{Param}
use Rattle.spec_table.specs.Sections.{DataSection}
use Rattle.spec_table.specs.Attributes.{Reading, attr_ref, attr_text}
use Rattle.ifc_kinds.specs.Keywords.{element_kinds}
use Rattle.ifc_kinds.specs.declared.kind.Kind.TheVariants as kind
use Rattle.spec_refusal.specs.Reads.{Read, next}
use Rattle.spec_entity.specs.Reads.{as_read, instance_of_kinds, is_one_of, has_kind, numbers_of, member_instance, members}

-- Which instances are elements.

-- the instance has one entry, with the keyword of a building element
abbrev pub has_element_kind : DataSection → ℕ → Bool
has_element_kind section n = is_one_of section element_kinds n

-- the numbers of the building elements of a file, in file order
abbrev pub elements : DataSection → List ℕ
elements section = filter (has_element_kind section) (numbers_of section)

-- The body of an element.

-- a representation, and the members of its items
abbrev pub Representation : Type 0
Representation = ℕ × List Param

-- the identifier is `Body`
abbrev pub is_body : Option (List ℕ) → Bool
is_body (Some text) = bytes_eq text (codes "Body")
is_body None = false

abbrev pub if_body : DataSection → ℕ → Option (List ℕ) → Read (Option Representation)
if_body section n identifier = if is_body identifier then next (members section n 4) (λ ms. Ok (Some (n, ms))) else Ok None

-- a representation, if its identifier is `Body`
abbrev pub body_in : DataSection → ℕ → Param → Read (Option Representation)
body_in section shape p =
    next (member_instance section shape 3 p) (λ m.
    next (instance_of_kinds section (kind.ShapeRepresentation ∷ []) m) (λ n.
    next (as_read (attr_text section n 2)) (if_body section n)))

abbrev pub or_next : Option Representation → Read (Option Representation) → Read (Option Representation)
or_next (Some c) rest = Ok (Some c)
or_next None rest = rest

-- the first of these representations whose identifier is `Body`
abbrev pub body_representation : DataSection → ℕ → List Param → Read (Option Representation)
body_representation section shape [] = Ok None
body_representation section shape (p ∷ ps) = next (body_in section shape p) (λ o. or_next o (body_representation section shape ps))

abbrev pub body_representation_of : DataSection → Option ℕ → Read (Option Representation)
body_representation_of section None = Ok None
body_representation_of section (Some n) =
    next (instance_of_kinds section (kind.ProductDefinitionShape ∷ []) n) (λ shape.
    next (members section shape 3) (λ ps. body_representation section shape ps))

-- the representation of a product that is read, if it has one
abbrev pub representation : DataSection → ℕ → Read (Option Representation)
representation section product = next (as_read (attr_ref section product 7)) (body_representation_of section)

-- Openings.

-- the attribute is a reference to the instance of a number
abbrev pub refers : ℕ → Reading (Option ℕ) → Bool
refers n (Ok (Some m)) = nat_eq m n
refers n (Ok None) = false
refers n (Err fault) = false

-- the instance is a relation that voids the element
abbrev pub voids : DataSection → ℕ → ℕ → Bool
voids section element n = has_kind section n kind.RelVoidsElement && refers element (attr_ref section n 5)
