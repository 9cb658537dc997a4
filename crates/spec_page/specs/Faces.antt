-- When a printed face is sound and full, and when a point lies on it.
use Rattle.std.specs.Prelude.{◌≡◌, ◌≢◌, ℕ, pos, ◌<◌, ◌≤◌, ◌*ℤ◌, ◌<ℤ◌, ◌≤ℤ◌, int_lt, Bool, ◌&&◌, ◌==◌, List, [], ◌∷◌, ◌++◌, length, map, filter, All, Any, AllPairs, unsigned_abs, slice_index_or, ◌⊎◌}
use Rattle.std.specs.List.{list_all, sum_by, count_by, zip}
use Rattle.spec_space.specs.declared.Point.{Point}
use Rattle.spec_space.specs.declared.Plane.{Plane}
use Rattle.spec_space.specs.declared.Vector.{Vector}
use Rattle.spec_space.specs.Points.{cross, way_between, normal, value}
use Rattle.spec_page.specs.declared.Corner.{Corner}
use Rattle.spec_page.specs.Element.{Face, Element}

-- what a place without a corner stands for; no sound face has one
abbrev pub no_corner : Corner
no_corner = record { exact = record { x = pos 0; y = pos 0; z = pos 0; w = pos 1 }; printed = record { x = pos 0; y = pos 0; z = pos 0 } }

abbrev pub corner_at : Element → ℕ → Corner
corner_at e i = slice_index_or e.corners i no_corner

-- the exact corners of a face, in order
abbrev pub face_points : Element → Face → List Point
face_points e f = map (λ i. (corner_at e i).exact) f.corners

-- the list with its first member behind its last
abbrev pub rotated : {X : Type 0} → List X → List X
rotated [] = []
rotated (x ∷ xs) = xs ++ x ∷ []

-- for the first coordinate of the direction that is not 0, the way goes to the same side
abbrev pub GoesAlong : Vector → Vector → Type 0
GoesAlong direction way =
    (pos 0 <ℤ (direction.x *ℤ way.x)) ⊎ ((direction.x ≡ pos 0)
    × ((pos 0 <ℤ (direction.y *ℤ way.y)) ⊎ ((direction.y ≡ pos 0) × (pos 0 <ℤ (direction.z *ℤ way.z)))))

-- the edge from u to v of a face on the plane h with these corners, whose edge plane is m: both ends are on m, no corner
-- is in front of m, and seen from the front of h the edge goes round the face to the left
pub record IsEdge (h m : Plane) (u v : Point) (points : List Point) : Type 0 where
  pub first : value m u ≡ pos 0
  pub second : value m v ≡ pos 0
  pub behind : All (λ p. value m p ≤ℤ pos 0) points
  pub along : GoesAlong (cross (normal h) (normal m)) (way_between u v)

abbrev pub AreEdges : Plane → List Point → List Plane → List Point → List Point → Type 0
AreEdges h points [] [] [] = Unit {0}
AreEdges h points (m ∷ ms) (u ∷ us) (v ∷ vs) = IsEdge h m u v points × AreEdges h points ms us vs
AreEdges h points _ _ _ = ⊥

-- a sound face: at least three corners of the element, all on its plane, and between each and the next an edge
pub record IsSound (e : Element) (f : Face) : Type 0 where
  pub enough : 3 ≤ length f.corners
  pub within : All (λ i. i < length e.corners) f.corners
  pub flat : All (λ p. value f.plane p ≡ pos 0) (face_points e f)
  pub edges : AreEdges f.plane (face_points e f) f.edges (face_points e f) (rotated (face_points e f))

-- a full face: its corners differ, and for each edge some corner is strictly behind the edge's plane
pub record IsFull (e : Element) (f : Face) : Type 0 where
  pub sound : IsSound e f
  pub different : AllPairs (λ p q. p ≢ q) (face_points e f)
  pub wide : All (λ m. Any (λ p. value m p <ℤ pos 0) (face_points e f)) f.edges

-- the point is on the face's plane, and strictly behind each of its edge planes
abbrev pub lies_on : Face → Point → Bool
lies_on f p = (unsigned_abs (value f.plane p) == 0) && list_all (λ m. int_lt (value m p) (pos 0)) f.edges

-- the faces of an element on which a point lies
abbrev pub faces_at : Element → Point → List Face
faces_at e p = filter (λ f. lies_on f p) e.faces

-- the edges of a face by the places of their ends: from each corner to the next, and from the last to the first
abbrev pub edge_ends : Face → List (ℕ × ℕ)
edge_ends f = zip f.corners (rotated f.corners)

-- the edge goes from u to v
abbrev pub goes_between : ℕ → ℕ → ℕ × ℕ → Bool
goes_between u v ends = (ends.0 == u) && (ends.1 == v)

-- the number of places over the faces at which u is followed by v, the last place of a face being followed by its first
abbrev pub edge_count : List Face → ℕ → ℕ → ℕ
edge_count faces u v = sum_by (λ f. count_by (goes_between u v) (edge_ends f)) faces
