-- Faces whose edges are cut at the corners on them.
use Rattle.std.specs.Prelude.{◌≡◌, ◌↔◌, pos, ◌<ℤ◌, List, ◌∷◌, map, All, AllPairs, Contains}
use Rattle.std.specs.List.{AllZip, flat_map}
use Rattle.spec_space.specs.Points.{dot, value, way_between}
use Rattle.spec_page.specs.Element.{Face}
use Rattle.plane_core.specs.declared.numbers.Plane.{Plane as BookPlane}
use Rattle.plane_core.specs.declared.numbers.Corner.{Corner}
use Rattle.plane_core.specs.declared.book.PlaneId.{PlaneId}
use Rattle.plane_core.specs.Views.{point_of}
use Rattle.poly_frag.specs.Frags.{plane_at, kept_side, side_of, support_of}
use Rattle.poly_frag.specs.declared.frag.Edge.{Edge}
use Rattle.face_walk.specs.declared.faces.OutFace.{OutFace}
use Rattle.edge_cut.specs.Seen.{outer_side, edges_seen, corners_seen, AreAt}
use Rattle.edge_cut.specs.declared.sides.Side.{Side}
use Rattle.edge_cut.specs.Sides.{AreSides}

-- the corner lies on the edge and is neither of its ends: it is on the plane of the piece and on that of the edge, and strictly
-- inside the sides that the edges before it and after it keep
pub record IsInsideEdge (planes : List BookPlane) (support : PlaneId) (s : Side) (c : Corner) : Type 0 where
  pub on_support : value (plane_at planes support) (point_of c) ≡ pos 0
  pub on_edge : value (plane_at planes s.edge.plane) (point_of c) ≡ pos 0
  pub after_start : pos 0 <ℤ value (side_of planes s.before) (point_of c)
  pub before_end : pos 0 <ℤ value (side_of planes s.after) (point_of c)

-- an edge of a piece and corners inside it
pub record CutSide : Type 0 where
  pub side : Side
  pub inside : List Corner

-- the way from c to d goes as the edge does
abbrev pub ComesAfter : Side → Corner → Corner → Type 0
ComesAfter s c d = pos 0 <ℤ dot (way_between (point_of s.start) (point_of s.end)) (way_between (point_of c) (point_of d))

-- all corners of a list that lie inside the edge, in order from its start to its end
pub record IsCutAt (planes : List BookPlane) (corners : List Corner) (support : PlaneId) (cut : CutSide) : Type 0 where
  pub all : (c : Corner) → Contains cut.inside c ↔ (Contains corners c × IsInsideEdge planes support cut.side c)
  pub in_order : AllPairs (ComesAfter cut.side) cut.inside

-- the corners along the edge, from its start on and without its end, and for each of them the edge that it begins
abbrev pub corners_along : CutSide → List Corner
corners_along cut = cut.side.start ∷ cut.inside

abbrev pub edges_along : CutSide → List Edge
edges_along cut = map (λ c. cut.side.edge) (corners_along cut)

-- the face is the piece, seen from outside, with its edges cut at the corners of one list; its corners are named by their
-- places in another list
pub record IsCutFaceOf (planes : List BookPlane) (cutting corners : List Corner) (o : OutFace) (face : Face) : Type 0 where
  pub plane : face.plane ≡ kept_side o.front_out (support_of planes o.frag)
  pub cuts : List CutSide
  pub of_piece : AreSides planes o.frag (map (λ c. c.side) cuts)
  pub cut : All (IsCutAt planes cutting o.frag.support) cuts
  pub edges : face.edges ≡ map (outer_side planes) (edges_seen o.front_out (flat_map edges_along cuts))
  pub at : AreAt corners face.corners (corners_seen o.front_out (flat_map corners_along cuts))

-- the faces of a mesh with these corners are the pieces, in order, with their edges cut at all corners of the mesh
abbrev pub AreCutFacesOf : List BookPlane → List Corner → List OutFace → List Face → Type 0
AreCutFacesOf planes corners pieces faces = AllZip (IsCutFaceOf planes corners corners) pieces faces
