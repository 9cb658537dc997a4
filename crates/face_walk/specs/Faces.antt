-- The boundary of a tree of planes, and the pieces that show it.
use Rattle.std.specs.Prelude.{◌≡◌, ◌≢◌, ◌≤◌, ◌<◌, ℕ, pos, negsuc, ◌*ℤ◌, ◌≤ℤ◌, Bool, true, false, List, [], ◌∷◌, length, map, filter, Option, Some, None, All}
use Rattle.std.specs.List.Sorted.{IsNonDecreasingBy}
use Rattle.spec_space.specs.declared.Point.{Point}
use Rattle.spec_space.specs.Points.{IsPoint, value}
use Rattle.spec_solid.specs.Planes.{front_of, back_of}
use Rattle.plane_core.specs.declared.numbers.Plane.{Plane as BookPlane}
use Rattle.plane_core.specs.declared.book.PlaneId.{PlaneId}
use Rattle.poly_frag.specs.Cubes.{IsInsideCube}
use Rattle.poly_frag.specs.Frags.{plane_at, IsIn}
use Rattle.poly_frag.specs.Cycles.{IsFragment}
use Rattle.tree_pool.specs.Trees.{Tree, value_of, IsPlaneOf, IsOff}
use Rattle.face_walk.specs.Points.{holds}
use Rattle.face_walk.specs.declared.faces.OutFace.{OutFace}

-- no coordinate has a size above 1048576 grid steps
pub record IsInRange (p : Point) : Type 0 where
  pub x_low : (negsuc 1048575 *ℤ p.w) ≤ℤ p.x
  pub x_high : p.x ≤ℤ (pos 1048576 *ℤ p.w)
  pub y_low : (negsuc 1048575 *ℤ p.w) ≤ℤ p.y
  pub y_high : p.y ≤ℤ (pos 1048576 *ℤ p.w)
  pub z_low : (negsuc 1048575 *ℤ p.w) ≤ℤ p.z
  pub z_high : p.z ≤ℤ (pos 1048576 *ℤ p.w)

-- the planes of the tree are in the book
abbrev pub IsOfBook : List BookPlane → Tree → Type 0
IsOfBook planes t = (k : ℕ) → IsPlaneOf k t → k < length planes

-- the tree is false at each point strictly inside the enclosing cube, off its planes, that has a coordinate out of range
abbrev pub IsTight : List BookPlane → Tree → Type 0
IsTight planes t = (q : Point) → IsPoint q → IsInsideCube q → IsOff planes t q → (IsInRange q → ⊥) → value_of planes t q ≡ Some false

-- the point is strictly inside the enclosing cube, on the plane of this number, and on no other plane of the tree
pub record IsAloneOn (planes : List BookPlane) (t : Tree) (id : PlaneId) (p : Point) : Type 0 where
  pub is_point : IsPoint p
  pub in_cube : IsInsideCube p
  pub on : value (plane_at planes id) p ≡ pos 0
  pub off : (other : PlaneId) → IsPlaneOf other.k t → other.k ≢ id.k → value (plane_at planes other) p ≢ pos 0

-- ---- what is shown at a point
-- whether the tree is true at a point off its planes
abbrev pub told : Option Bool → Bool
told None = false
told (Some b) = b

abbrev pub is_true_at : List BookPlane → Tree → Point → Bool
is_true_at planes t q = told (value_of planes t q)

-- which sides of a plane are outside, by the values right in front and right behind: none where they are the same, and else
-- the front where the value in front is false
abbrev pub outside_by : Bool → Bool → List Bool
outside_by true true = []
outside_by true false = false ∷ []
outside_by false true = true ∷ []
outside_by false false = []

-- the boundary at a point alone on a plane: nothing where the values at its two neighbours are the same, and where they differ
-- whether the front is outside
abbrev pub boundary_on : List BookPlane → Tree → PlaneId → Point → List Bool
boundary_on planes t id p = outside_by (is_true_at planes t (front_of (plane_at planes id) p)) (is_true_at planes t (back_of (plane_at planes id) p))

-- the pieces that have the point strictly inside
abbrev pub pieces_at : List BookPlane → Point → List OutFace → List OutFace
pieces_at planes p pieces = filter (λ o. holds planes o.frag p) pieces

-- the pieces show the boundary of the tree on the plane: at a point alone on it, the pieces with the point strictly inside are
-- one, with its front outside exactly where the value at the front neighbour is false, if the values at the neighbours differ,
-- and none otherwise
abbrev pub ShowBoundary : List BookPlane → Tree → PlaneId → List OutFace → Type 0
ShowBoundary planes t id pieces = (p : Point) → IsAloneOn planes t id p → map (λ o. o.front_out) (pieces_at planes p pieces) ≡ boundary_on planes t id p

-- ---- the pieces
-- a fragment of a plane of the tree that is no wall of the enclosing cube; its edges are of planes of the tree, and no point of
-- it, its corners included, is out of range
pub record IsFace (planes : List BookPlane) (t : Tree) (o : OutFace) : Type 0 where
  pub fragment : IsFragment planes o.frag
  pub no_wall : 6 ≤ o.frag.support.k
  pub support : IsPlaneOf o.frag.support.k t
  pub edges : All (λ e. IsPlaneOf e.plane.k t × (6 ≤ e.plane.k)) o.frag.edges.items
  pub in_range : (p : Point) → IsPoint p → IsIn planes o.frag p → IsInRange p

-- the faces of the tree on a plane of the book
pub record AreFacesOn (planes : List BookPlane) (t : Tree) (id : PlaneId) (pieces : List OutFace) : Type 0 where
  pub faces : All (IsFace planes t) pieces
  pub on_plane : All (λ o. o.frag.support ≡ id) pieces
  pub boundary : ShowBoundary planes t id pieces

-- the faces of the tree on all planes, in the order of their planes in the book
pub record AreFacesOf (planes : List BookPlane) (t : Tree) (pieces : List OutFace) : Type 0 where
  pub faces : All (IsFace planes t) pieces
  pub boundary : (id : PlaneId) → id.k < length planes → ShowBoundary planes t id pieces
  pub in_order : IsNonDecreasingBy (λ o. o.frag.support.k) pieces
