-- Planes in a book by their reduced forms, the regions below triangles, and trees that tell a meaning.
use Rattle.std.specs.Prelude.{◌≡◌, ◌≢◌, ◌<◌, ◌≤◌, ◌+◌, ℕ, pos, int_lt, Bool, List, [], ◌∷◌, length, slice_get, Some, Contains}
use Rattle.std.specs.List.{flat_map}
use Rattle.spec_space.specs.declared.Plane.{Plane}
use Rattle.spec_space.specs.declared.Point.{Point}
use Rattle.spec_space.specs.Points.{IsPoint, value}
use Rattle.spec_solid.specs.Triangles.{Triangle}
use Rattle.spec_solid.specs.Planes.{triangle_planes}
use Rattle.ray_law.specs.Columns.{is_in_front, point_at}
use Rattle.ray_law.specs.Shells.{is_covered, is_covered_oddly}
use Rattle.plane_core.specs.declared.numbers.Plane.{Plane as BookPlane}
use Rattle.plane_core.specs.Views.{plane_of}
use Rattle.plane_core.specs.Planes.{IsReductionOf}
use Rattle.plane_cells.specs.declared.steps.Step.{Step}
use Rattle.poly_frag.specs.Cubes.{IsInsideCube}
use Rattle.tree_pool.specs.Trees.{Tree, value_of, IsPlaneOf}
use Rattle.parity_trees.specs.declared.regions.Region.{Region}
use Rattle.parity_trees.specs.Regions.{is_on_all, lies_in_oddly, all_sides}
use Rattle.triangle_planes.specs.declared.forms.TriangleForms.{TriangleForms}

-- each plane of the old book has its number in the new one, which has at most n planes more
pub record IsGrown (n : ℕ) (old new : List BookPlane) : Type 0 where
  pub same : (k : ℕ) → k < length old → slice_get new k ≡ slice_get old k
  pub longer : length old ≤ length new
  pub most : length new ≤ length old + n

-- the step is to this side of the plane
pub record IsSideOf (planes : List BookPlane) (p : BookPlane) (in_front : Bool) (s : Step) : Type 0 where
  pub number : slice_get planes s.plane.k ≡ Some p
  pub side : s.in_front ≡ in_front

-- the four sides of what lies below a triangle, for each edge that of the third corner, and for its plane that below
pub record AreSidesBelow (planes : List BookPlane) (t : Triangle) (forms : TriangleForms) (sides : List Step) : Type 0 where
  pub ab : Step
  pub bc : Step
  pub ca : Step
  pub through : Step
  pub are : sides ≡ ab ∷ bc ∷ ca ∷ through ∷ []
  pub ab_side : IsSideOf planes forms.ab (is_in_front (point_at t.c) (plane_of forms.ab)) ab
  pub bc_side : IsSideOf planes forms.bc (is_in_front (point_at t.a) (plane_of forms.bc)) bc
  pub ca_side : IsSideOf planes forms.ca (is_in_front (point_at t.b) (plane_of forms.ca)) ca
  pub through_side : IsSideOf planes forms.through (int_lt forms.through.c (pos 0)) through

-- the book has under the number the reduced form of one of the planes
abbrev pub HasFormOf : List BookPlane → List Plane → ℕ → Type 0
HasFormOf planes ks n = (p : BookPlane) × (k : Plane) × (slice_get planes n ≡ Some p) × Contains ks k × IsReductionOf p k.a k.b k.c k.d

-- the point is on none of the planes
abbrev pub IsOffAll : List Plane → Point → Type 0
IsOffAll ks q = (k : Plane) → Contains ks k → value k q ≢ pos 0

-- the region is what lies strictly below the triangle, in its column
pub record IsRegionBelow (planes : List BookPlane) (t : Triangle) (r : Region) : Type 0 where
  pub covers : (q : Point) → IsOffAll (triangle_planes t) q → is_on_all planes r.sides.items q ≡ is_covered t q
  pub forms : (s : Step) → Contains r.sides.items s → HasFormOf planes (triangle_planes t) s.plane.k

-- an odd number of the regions holds a point where it lies below an odd number of the triangles
pub record AreRegionsBelow (planes : List BookPlane) (ts : List Triangle) (rs : List Region) : Type 0 where
  pub covers : (q : Point) → IsOffAll (flat_map triangle_planes ts) q → lies_in_oddly planes rs q ≡ is_covered_oddly ts q
  pub forms : (s : Step) → Contains (all_sides rs) s → HasFormOf planes (flat_map triangle_planes ts) s.plane.k

-- at each point strictly inside the enclosing cube and off the planes ks the tree has what the point is told, and its planes
-- are reduced forms of some of them
pub record IsTreeOf (planes : List BookPlane) (ks : List Plane) (told : Point → Bool) (t : Tree) : Type 0 where
  pub value : (q : Point) → IsPoint q → IsInsideCube q → IsOffAll ks q → value_of planes t q ≡ Some (told q)
  pub among : (n : ℕ) → IsPlaneOf n t → HasFormOf planes ks n
