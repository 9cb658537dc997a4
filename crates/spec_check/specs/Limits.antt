-- The limits of what a page holds, whoever wrote it (rules of this project).
use Rattle.std.specs.Prelude.{◌≡◌, ◌≢◌, ℕ, ℤ, ◌^◌, ◌<◌, ◌≤◌, Some, IfSome, length, All}
use Rattle.spec_num.specs.Words.{within_128_bits}
use Rattle.spec_place.specs.Vectors.{IsWithin}
use Rattle.spec_place.specs.Transforms.{IsFrame}
use Rattle.spec_refusal.specs.declared.Refusal.{Refusal}
use Rattle.spec_refusal.specs.declared.Refusal.TheVariants.{Unsupported, Curved, BadAttribute, Dangling, NumberTooLarge, BadDirection, ScaleOutOfRange, TooDeep, ElementTooLarge, CornerTooFar, OpenShell, PlaneTooLarge, Unbounded}
use Rattle.spec_page.specs.Element.{Face, Element}
use Rattle.spec_page.specs.Faces.{edge_ends}
use Rattle.spec_page.specs.Items.{Item, Printed, Skipped, Refused}
use Rattle.spec_headline.specs.Reduced.{IsCornerWithin, IsPrintedPlane}

-- a grid has from 1 to 10,000 micrometres
pub record IsPageGrid (grid : ℕ) : Type 0 where
  pub least : 1 ≤ grid
  pub most : grid ≤ 10000

-- a number of at most 18 digits
abbrev pub IsShort : ℕ → Type 0
IsShort n = n < 10 ^ 18

-- a face among so many corners
pub record IsFaceWithin (corners : ℕ) (f : Face) : Type 0 where
  pub plane : IsPrintedPlane f.plane
  pub edges : All IsPrintedPlane f.edges
  -- at least three corners, each with the plane of its edge
  pub enough : 3 ≤ length f.corners
  pub paired : length f.edges ≡ length f.corners
  -- each is one of the element's, and differs from the next
  pub within : All (λ i. i < corners) f.corners
  pub apart : All (λ ends. ends.0 ≢ ends.1) (edge_ends f)

-- a volume within 128 bits
abbrev pub IsVolume : ℤ → Type 0
IsVolume v = within_128_bits v ≡ Some v

pub record IsElementWithin (e : Element) : Type 0 where
  pub number : IsShort e.number
  pub frame : IsFrame e.frame
  pub corners : All IsCornerWithin e.corners
  pub faces : All (IsFaceWithin (length e.corners)) e.faces
  pub volume : IfSome e.six IsVolume

abbrev pub IsRefusalWithin : Refusal → Type 0
IsRefusalWithin (Unsupported at) = IsShort at
IsRefusalWithin (Curved at) = IsShort at
IsRefusalWithin (BadAttribute at position) = IsShort at × IsShort position
IsRefusalWithin (Dangling at number) = IsShort at × IsShort number
IsRefusalWithin (NumberTooLarge at) = IsShort at
IsRefusalWithin (BadDirection at) = IsShort at
IsRefusalWithin (ScaleOutOfRange at) = IsShort at
IsRefusalWithin (TooDeep at) = IsShort at
IsRefusalWithin (ElementTooLarge triangles) = triangles < 10 ^ 21
IsRefusalWithin (CornerTooFar at) = IsShort at
IsRefusalWithin (OpenShell at from to) = IsShort at × IsWithin (2 ^ 20) from × IsWithin (2 ^ 20) to
IsRefusalWithin (PlaneTooLarge at) = IsShort at
IsRefusalWithin (Unbounded at) = IsShort at

abbrev pub IsItemWithin : Item → Type 0
IsItemWithin (Printed e) = IsElementWithin e
IsItemWithin (Skipped n) = IsShort n
IsItemWithin (Refused n why) = IsShort n × IsRefusalWithin why
