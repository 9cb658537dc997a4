-- A piece of a plane as it is seen from outside, and the places of its corners.
use Rattle.std.specs.Prelude.{◌≡◌, Bool, true, false, ℕ, List, [], ◌∷◌, Some, reverse, slice_get}
use Rattle.spec_space.specs.declared.Plane.{Plane}
use Rattle.spec_space.specs.Points.{opposite}
use Rattle.spec_page.specs.Faces.{rotated}
use Rattle.plane_core.specs.declared.numbers.Plane.{Plane as BookPlane}
use Rattle.plane_core.specs.declared.numbers.Corner.{Corner}
use Rattle.poly_frag.specs.Frags.{side_of}
use Rattle.poly_frag.specs.declared.frag.Edge.{Edge}

-- the plane of an edge with its normal out of the piece
abbrev pub outer_side : List BookPlane → Edge → Plane
outer_side planes e = opposite (side_of planes e)

-- edges and corners of a cycle that goes round to the left, in the order in which they are seen from the front or the back:
-- from the back the cycle is gone round the other way, from the last corner to the one before it, and so on to the first,
-- and from the first to the last
abbrev pub edges_seen : Bool → List Edge → List Edge
edges_seen true edges = edges
edges_seen false edges = rotated (reverse edges)

abbrev pub corners_seen : Bool → List Corner → List Corner
corners_seen true corners = corners
corners_seen false corners = reverse corners

-- the corners at these places, in order
abbrev pub AreAt : List Corner → List ℕ → List Corner → Type 0
AreAt corners [] [] = Unit {0}
AreAt corners (place ∷ places) (c ∷ cs) = (slice_get corners place ≡ Some c) × AreAt corners places cs
AreAt corners _ _ = ⊥
