-- What becomes of each element of a file: it has no body, it is refused, or it is converted.
use Rattle.std.specs.Prelude.{◌≡◌, ℕ, nat_eq, List, [], ◌∷◌, Option, Some, None, Ok, Err}
use Rattle.std.specs.List.{filter}
use Rattle.spec_place.specs.declared.transform.Transform.{Transform}
use Rattle.spec_solid.specs.Solids.{Body}
use Rattle.spec_refusal.specs.declared.Refusal.{Refusal}
use Rattle.spec_refusal.specs.Reads.{Read}
use Rattle.spec_page.specs.Element.{Element}
use Rattle.spec_page.specs.Items.{Item, Printed, Skipped, Refused}
use Rattle.spec_headline.specs.Headline.{IsPrintOf}
use Rattle.spec_shape.specs.Shapes.{ElementShape}
use Rattle.spec_grid.specs.Rounded.{round_element}
use Rattle.spec_geometry.specs.Files.{File}
use Rattle.spec_geometry.specs.Elements.{element_body}

-- an element without a body; the first refusal of reading, or else of rounding; where the element stands, and what it is on
-- the grid
pub data Outcome : Type 0 where
  Bodyless : Outcome
  Faulty : Refusal → Outcome
  Solid : Transform → Body → Outcome

abbrev pub rounded_outcome : Transform → Read Body → Outcome
rounded_outcome frame (Err why) = Faulty why
rounded_outcome frame (Ok body) = Solid frame body

-- the outcome of an element, by what is read of it
abbrev pub outcome_of : ℕ → Read (Option ElementShape) → Outcome
outcome_of grid (Err why) = Faulty why
outcome_of grid (Ok None) = Bodyless
outcome_of grid (Ok (Some element)) = rounded_outcome element.frame (round_element grid element)

-- the outcome of the element of a number
abbrev pub outcome : File → ℕ → Outcome
outcome file n = outcome_of file.grid (element_body file n)

-- the printed element of a number, in this frame, whose meaning is this body
pub record IsElementOf (grid n : ℕ) (frame : Transform) (body : Body) (e : Element) : Type 0 where
  pub number : e.number ≡ n
  pub placed : e.frame ≡ frame
  pub print : IsPrintOf body grid e

-- the item that stands on the page for an outcome
abbrev pub StandsFor : ℕ → ℕ → Outcome → Item → Type 0
StandsFor grid n Bodyless item = item ≡ Skipped n
StandsFor grid n (Faulty why) item = item ≡ Refused n why
StandsFor grid n (Solid frame body) item = (e : Element) × (item ≡ Printed e) × IsElementOf grid n frame body e

-- the item of the element of a number
abbrev pub IsItemOf : File → ℕ → Item → Type 0
IsItemOf file n item = StandsFor file.grid n (outcome file n) item

-- one item for each of these elements, in order
abbrev pub AreItemsOf : File → List ℕ → List Item → Type 0
AreItemsOf file [] [] = Unit {0}
AreItemsOf file (n ∷ ns) (i ∷ is) = IsItemOf file n i × AreItemsOf file ns is
AreItemsOf file [] (i ∷ is) = ⊥
AreItemsOf file (n ∷ ns) [] = ⊥

-- the elements that are wanted: all of them, or the one of a number
abbrev pub wanted_of : Option ℕ → List ℕ → List ℕ
wanted_of None ns = ns
wanted_of (Some only) ns = filter (λ n. nat_eq n only) ns
