-- The relations that void an element, as they are listed by its number.
use Rattle.std.specs.Prelude.{◌≡◌, ℕ, Bool, false, nat_eq, List, [], Vec, Option, Some, None}
use Rattle.std.specs.BTreeMap.{get}
use Rattle.std.specs.Ordering.{nat_cmp}
use Rattle.spec_table.specs.Sections.{DataSection}
use Rattle.spec_geometry.specs.Elements.{voiding}
use Rattle.ifc_elem.specs.declared.openings.Openings.{Openings}

abbrev pub listed : {A : Type 0} → Option (Vec ℕ A) → List ℕ
listed None = []
listed (Some found) = found.items

abbrev pub is_number : ℕ → Option ℕ → Bool
is_number n None = false
is_number n (Some m) = nat_eq m n

abbrev pub relations_of : Openings → ℕ → List ℕ
relations_of openings element = listed (get nat_cmp openings.relations element)

-- the relations listed for each number are those that void the element of that number
abbrev pub IsIndexOf : Openings → DataSection → Type 0
IsIndexOf openings section = (element : ℕ) → relations_of openings element ≡ voiding section element
