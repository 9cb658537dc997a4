-- Outlines of pieces, and the corners that are gathered from them.
use Rattle.std.specs.Prelude.{◌≡◌, ◌↔◌, ◌⊎◌, ◌<◌, List, [], ◌∷◌, length, map, All, Contains}
use Rattle.plane_core.specs.declared.numbers.Plane.{Plane as BookPlane}
use Rattle.plane_core.specs.declared.numbers.Corner.{Corner}
use Rattle.convex_cycles.specs.Cycles.{IsEdgeOf}
use Rattle.poly_frag.specs.Frags.{plane_at}
use Rattle.corner_book.specs.Corners.{MeetIn}
use Rattle.face_walk.specs.declared.faces.OutFace.{OutFace}
use Rattle.edge_cut.specs.declared.sides.Side.{Side}
use Rattle.edge_cut.specs.declared.sides.Outline.{Outline}
use Rattle.edge_cut.specs.Sides.{AreSides, step_of}

-- the outline of the piece
pub record IsOutlineOf (planes : List BookPlane) (o : OutFace) (w : Outline) : Type 0 where
  pub support : w.support ≡ o.frag.support
  pub front_out : w.front_out ≡ o.front_out
  pub sides : AreSides planes o.frag w.sides.items

-- the book has the planes of the edge and of those beside it
pub record IsSideOfBook (planes : List BookPlane) (s : Side) : Type 0 where
  pub before : s.before.plane.k < length planes
  pub edge : s.edge.plane.k < length planes
  pub after : s.after.plane.k < length planes

-- the book has the planes of the outline, each edge is one of a convex cycle, and starts where its plane meets those of the
-- piece and of the edge before
pub record IsOfBook (planes : List BookPlane) (w : Outline) : Type 0 where
  pub support : w.support.k < length planes
  pub sides : All (IsSideOfBook planes) w.sides.items
  pub edges : All (λ s. IsEdgeOf (plane_at planes w.support) (step_of planes s)) w.sides.items
  pub meet : All (λ s. MeetIn planes (w.support ∷ s.before.plane ∷ s.edge.plane ∷ []) s.start) w.sides.items

abbrev pub starts_of : Outline → List Corner
starts_of w = map (λ s. s.start) w.sides.items

-- the corners are the old ones and more
abbrev pub HasAdded : List Corner → List Corner → List Corner → Type 0
HasAdded old more new = (c : Corner) → Contains new c ↔ (Contains old c ⊎ Contains more c)

-- the two lists have the same corners
abbrev pub HasCorners : List Corner → List Corner → Type 0
HasCorners given found = (c : Corner) → Contains found c ↔ Contains given c
