-- What is found of a page that is checked (rules of this project).
use Rattle.std.specs.Prelude.{◌≡◌, ◌≢◌, ◌⊎◌, ℕ, ℤ, pos, ◌+◌, ◌*ℤ◌, ◌-ℤ◌, ◌<◌, ◌≤◌, List, [], ◌∷◌, ◌++◌, length, All, unsigned_abs}
use Rattle.std.specs.List.{sum_by}
use Rattle.spec_num.specs.Words.{within_128_bits}
use Rattle.spec_space.specs.Points.{value}
use Rattle.spec_place.specs.declared.transform.Transform.{Transform}
use Rattle.spec_page.specs.declared.Corner.{Corner}
use Rattle.spec_page.specs.Element.{Face, Element}
use Rattle.spec_page.specs.Items.{Item, Printed, Skipped, Refused}
use Rattle.spec_page.specs.Faces.{face_points, IsSound, edge_count}
use Rattle.spec_page.specs.World.{image_above, image_below, printed_volume}
use Rattle.spec_check.specs.Grammar.{IsPageText}
use Rattle.spec_check.specs.declared.Verdict.{Verdict}
use Rattle.spec_check.specs.declared.Verdict.TheVariants.{Sound, FarCorner, OffPlane, NotConvex, Unbalanced, WrongVolume}

-- the number differs from the fraction by at most a half
abbrev pub IsWithinHalf : ℤ → ℤ → ℤ → Type 0
IsWithinHalf n above below = unsigned_abs (pos 2 *ℤ (n *ℤ below -ℤ above)) ≤ unsigned_abs below

-- the printed corner is within half a micrometre of the exact image, in each coordinate
pub record IsNearImage (f : Transform) (grid : ℕ) (c : Corner) : Type 0 where
  pub x : IsWithinHalf c.printed.x (image_above f.x f.off.x grid c.exact) (image_below c.exact)
  pub y : IsWithinHalf c.printed.y (image_above f.y f.off.y grid c.exact) (image_below c.exact)
  pub z : IsWithinHalf c.printed.z (image_above f.z f.off.z grid c.exact) (image_below c.exact)

-- each directed edge stands in the faces as often as its reverse
abbrev pub IsBalanced : Element → Type 0
IsBalanced e = (i j : ℕ) → edge_count e.faces i j ≡ edge_count e.faces j i

abbrev pub HasItsVolume : Element → Type 0
HasItsVolume e = e.six ≡ within_128_bits (printed_volume e)

-- a sound element on a grid of so many micrometres
pub record IsSoundElement (grid : ℕ) (e : Element) : Type 0 where
  pub near : All (IsNearImage e.frame grid) e.corners
  pub faces : All (IsSound e) e.faces
  pub balanced : IsBalanced e
  pub volume : HasItsVolume e

-- Which of the faults of an element comes first.

-- the member x behind those before it is the first of the list that does not hold
pub record IsFirstNot {X : Type 0} (Holds : X → Type 0) (xs before : List X) (x : X) (after : List X) : Type 0 where
  pub split : xs ≡ before ++ x ∷ after
  pub hold : All Holds before
  pub fails : Holds x → ⊥

-- the face is flat: each of its corners is on its plane
abbrev pub IsFlat : Element → Face → Type 0
IsFlat e f = All (λ p. value f.plane p ≡ pos 0) (face_points e f)

-- the first corner that is not near its image, where so many corners stand before the element
pub record IsFarCorner (grid corners : ℕ) (e : Element) (v : ℕ) : Type 0 where
  pub before : List Corner
  pub corner : Corner
  pub after : List Corner
  pub first : IsFirstNot (IsNearImage e.frame grid) e.corners before corner after
  pub named : v ≡ corners + length before + 1

-- the first face that is not sound, where so many faces stand before the element; whether it is flat
pub record IsFaultyFace (Flat : Type 0 → Type 0) (grid faces : ℕ) (e : Element) (n : ℕ) : Type 0 where
  pub near : All (IsNearImage e.frame grid) e.corners
  pub before : List Face
  pub face : Face
  pub after : List Face
  pub first : IsFirstNot (IsSound e) e.faces before face after
  pub flat : Flat (IsFlat e face)
  pub named : n ≡ faces + length before + 1

abbrev pub Holds : Type 0 → Type 0
Holds P = P

abbrev pub Fails : Type 0 → Type 0
Fails P = P → ⊥

-- the pair comes before the other or is the same: by its first place, then by its second
abbrev pub IsPairUpTo : ℕ → ℕ → ℕ → ℕ → Type 0
IsPairUpTo i j k l = (i < k) ⊎ ((i ≡ k) × (j ≤ l))

-- the least pair of places that is not balanced, where so many corners stand before the element
pub record IsUnbalanced (grid corners : ℕ) (e : Element) (u v : ℕ) : Type 0 where
  pub near : All (IsNearImage e.frame grid) e.corners
  pub faces : All (IsSound e) e.faces
  pub from : ℕ
  pub to : ℕ
  pub fails : edge_count e.faces from to ≢ edge_count e.faces to from
  pub least : (i j : ℕ) → edge_count e.faces i j ≢ edge_count e.faces j i → IsPairUpTo from to i j
  pub first_named : u ≡ corners + from + 1
  pub second_named : v ≡ corners + to + 1

pub record HasWrongVolume (grid : ℕ) (e : Element) (n : ℕ) : Type 0 where
  pub near : All (IsNearImage e.frame grid) e.corners
  pub faces : All (IsSound e) e.faces
  pub balanced : IsBalanced e
  pub volume : HasItsVolume e → ⊥
  pub named : n ≡ e.number

-- what is wrong with an element, where so many corners and faces stand before it
abbrev pub IsFaultOf : ℕ → ℕ → ℕ → Element → Verdict → Type 0
IsFaultOf grid corners faces e Sound = ⊥
IsFaultOf grid corners faces e (FarCorner v) = IsFarCorner grid corners e v
IsFaultOf grid corners faces e (OffPlane face) = IsFaultyFace Fails grid faces e face
IsFaultOf grid corners faces e (NotConvex face) = IsFaultyFace Holds grid faces e face
IsFaultOf grid corners faces e (Unbalanced u v) = IsUnbalanced grid corners e u v
IsFaultOf grid corners faces e (WrongVolume n) = HasWrongVolume grid e n

-- the elements among items
abbrev pub elements_in : List Item → List Element
elements_in [] = []
elements_in (Printed e ∷ is) = e ∷ elements_in is
elements_in (Skipped n ∷ is) = elements_in is
elements_in (Refused n why ∷ is) = elements_in is

-- the text is a page within the limits on a grid of so many micrometres, and its elements are sound
pub record IsSoundPage (grid : ℕ) (text : List ℕ) : Type 0 where
  pub items : List Item
  pub page : IsPageText text grid items
  pub sound : All (IsSoundElement grid) (elements_in items)

-- the first element that is not sound, and what is wrong with it
pub record IsFirstFault (grid : ℕ) (elements : List Element) (verdict : Verdict) : Type 0 where
  pub before : List Element
  pub element : Element
  pub after : List Element
  pub split : elements ≡ before ++ element ∷ after
  pub sound : All (IsSoundElement grid) before
  pub fault : IsFaultOf grid (sum_by (λ e. length e.corners) before) (sum_by (λ e. length e.faces) before) element verdict

-- what is found of the elements of a page on a grid of so many micrometres
abbrev pub IsVerdict : ℕ → List Element → Verdict → Type 0
IsVerdict grid elements Sound = All (IsSoundElement grid) elements
IsVerdict grid elements (FarCorner v) = IsFirstFault grid elements (FarCorner v)
IsVerdict grid elements (OffPlane face) = IsFirstFault grid elements (OffPlane face)
IsVerdict grid elements (NotConvex face) = IsFirstFault grid elements (NotConvex face)
IsVerdict grid elements (Unbalanced u v) = IsFirstFault grid elements (Unbalanced u v)
IsVerdict grid elements (WrongVolume n) = IsFirstFault grid elements (WrongVolume n)
