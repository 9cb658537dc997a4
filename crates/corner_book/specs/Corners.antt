-- What a book of corners holds.
use Rattle.std.specs.Prelude.{◌≡◌, ◌≢◌, ◌<◌, List, [], ◌∷◌, Some, length, map, slice_get}
use Rattle.std.specs.List.{AllPairs}
use Rattle.indexmap.specs.IndexMap.{keys, values}
use Rattle.plane_core.specs.declared.numbers.Plane.{Plane}
use Rattle.plane_core.specs.declared.numbers.Corner.{Corner}
use Rattle.plane_core.specs.declared.book.PlaneId.{PlaneId}
use Rattle.plane_core.specs.Planes.{IsCommonPoint}
use Rattle.corner_book.specs.declared.book.CornerBook.{CornerBook}
use Rattle.corner_book.specs.Places.{places_on_planes}

-- its corners, by their places
abbrev pub corners_of : CornerBook → List Corner
corners_of b = keys b.corners

-- for each corner the numbers of the three planes with which it was first added
abbrev pub planes_of : CornerBook → List (List PlaneId)
planes_of b = values b.corners

-- no corner stands twice
abbrev pub AreDistinct : List Corner → Type 0
AreDistinct corners = AllPairs (λ c d. c ≢ d) corners

-- three planes with these numbers meet in the corner, and nowhere else
pub record MeetIn (planes : List Plane) (ids : List PlaneId) (c : Corner) : Type 0 where
  pub first : Plane
  pub second : Plane
  pub third : Plane
  pub at : map (λ id. slice_get planes id.k) ids ≡ Some first ∷ Some second ∷ Some third ∷ []
  pub common : IsCommonPoint first second third c

-- each corner is where its planes meet
abbrev pub AreMeetings : List Plane → List Corner → List (List PlaneId) → Type 0
AreMeetings planes [] [] = Unit {0}
AreMeetings planes (c ∷ cs) (ids ∷ rest) = MeetIn planes ids c × AreMeetings planes cs rest
AreMeetings planes _ _ = ⊥

-- the lists name the corners on each plane
abbrev pub AreListed : List Plane → CornerBook → Type 0
AreListed planes b = b.lists.items ≡ places_on_planes planes (corners_of b)

-- each corner was added with these planes, in the order of their numbers
pub record IsMadeWith (planes : List Plane) (b : CornerBook) : Type 0 where
  pub listed : 0 < length (corners_of b) → AreListed planes b
  pub met : AreMeetings planes (corners_of b) (planes_of b)
