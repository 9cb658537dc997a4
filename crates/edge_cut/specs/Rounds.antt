-- The boundary of a piece, cut at corners, and the faces of a mesh in the making.
use Rattle.std.specs.Prelude.{◌≡◌, ◌++◌, List, map, All}
use Rattle.std.specs.List.{flat_map}
use Rattle.spec_page.specs.Element.{Face}
use Rattle.plane_core.specs.declared.numbers.Plane.{Plane as BookPlane}
use Rattle.plane_core.specs.declared.numbers.Corner.{Corner}
use Rattle.plane_core.specs.declared.book.PlaneId.{PlaneId}
use Rattle.poly_frag.specs.Frags.{plane_at, kept_side}
use Rattle.exact_mesh.specs.Meshes.{face_of}
use Rattle.edge_cut.specs.Seen.{outer_side, edges_seen, corners_seen, AreAt}
use Rattle.edge_cut.specs.declared.sides.Side.{Side}
use Rattle.edge_cut.specs.declared.sides.Outline.{Outline}
use Rattle.edge_cut.specs.declared.round.Round.{Round}
use Rattle.edge_cut.specs.declared.builder.MeshBuilder.{MeshBuilder}
use Rattle.edge_cut.specs.Cuts.{CutSide, corners_along, edges_along}
use Rattle.edge_cut.specs.Stretches.{IsStretch}

-- the round has got the parts of the edge
pub record HasCut (planes : List BookPlane) (cutting : List Corner) (support : PlaneId) (s : Side) (old new : Round) : Type 0 where
  pub inside : List Corner
  pub stretch : IsStretch planes cutting support s inside
  pub edges : new.edges.items ≡ old.edges.items ++ edges_along (record { side = s; inside = inside })
  pub corners : new.corners.items ≡ old.corners.items ++ corners_along (record { side = s; inside = inside })

abbrev pub IsCut : List BookPlane → List Corner → PlaneId → CutSide → Type 0
IsCut planes cutting support cut = IsStretch planes cutting support cut.side cut.inside

-- the boundary of the outline, cut at the corners
pub record IsRoundOf (planes : List BookPlane) (cutting : List Corner) (w : Outline) (round : Round) : Type 0 where
  pub cuts : List CutSide
  pub sides : map (λ c. c.side) cuts ≡ w.sides.items
  pub cut : All (IsCut planes cutting w.support) cuts
  pub edges : round.edges.items ≡ flat_map edges_along cuts
  pub corners : round.corners.items ≡ flat_map corners_along cuts

-- the face is the outlined piece, seen from outside, with its edges cut at the corners of one list; its corners are named by
-- their places in another list
pub record IsFaceOf (planes : List BookPlane) (cutting corners : List Corner) (w : Outline) (face : Face) : Type 0 where
  pub plane : face.plane ≡ kept_side w.front_out (plane_at planes w.support)
  pub cuts : List CutSide
  pub sides : map (λ c. c.side) cuts ≡ w.sides.items
  pub cut : All (IsCut planes cutting w.support) cuts
  pub edges : face.edges ≡ map (outer_side planes) (edges_seen w.front_out (flat_map edges_along cuts))
  pub at : AreAt corners face.corners (corners_seen w.front_out (flat_map corners_along cuts))

-- the corners and faces of a mesh in the making
abbrev pub corners_of : MeshBuilder → List Corner
corners_of b = b.corners.keys

abbrev pub faces_of : MeshBuilder → List Face
faces_of b = map face_of b.faces.items

-- the old corners have kept their places, and new ones stand behind them
abbrev pub IsGrown : List Corner → List Corner → Type 0
IsGrown old new = (more : List Corner) × (new ≡ old ++ more)
