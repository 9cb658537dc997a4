-- Regions: when a point lies in one, and when a tree tells whether it lies in an odd number of them.
use Rattle.std.specs.Prelude.{◌≡◌, ◌≢◌, ℕ, pos, Bool, false, List, [], ◌∷◌, Some, slice_get, Contains}
use Rattle.std.specs.List.{flat_map, list_all}
use Rattle.spec_space.specs.declared.Point.{Point}
use Rattle.spec_space.specs.Points.{IsPoint}
use Rattle.spec_solid.specs.Triangles.{differ}
use Rattle.plane_core.specs.declared.numbers.Plane.{Plane}
use Rattle.convex_cycles.specs.Sides.{is_in_front}
use Rattle.poly_frag.specs.Cubes.{IsInsideCube}
use Rattle.plane_cells.specs.Cells.{step_side}
use Rattle.plane_cells.specs.declared.steps.Step.{Step}
use Rattle.tree_pool.specs.Trees.{Tree, level_by, value_of, IsPlaneOf}
use Rattle.parity_trees.specs.declared.regions.Region.{Region}

-- the point lies strictly on each of the sides
abbrev pub is_on_all : List Plane → List Step → Point → Bool
is_on_all planes sides q = list_all (λ s. is_in_front (step_side planes s) q) sides

-- an odd number of the regions holds the point
abbrev pub lies_in_oddly : List Plane → List Region → Point → Bool
lies_in_oddly planes [] q = false
lies_in_oddly planes (r ∷ rs) q = differ (is_on_all planes r.sides.items q) (lies_in_oddly planes rs q)

-- the sides of all regions
abbrev pub all_sides : List Region → List Step
all_sides regions = flat_map (λ r. r.sides.items) regions

-- the point is on no plane of the sides
abbrev pub IsOffSides : List Plane → List Step → Point → Type 0
IsOffSides planes sides q = (s : Step) → Contains sides s → level_by (slice_get planes s.plane.k) q ≢ pos 0

-- at every point strictly inside the enclosing cube and off the planes of the regions the tree tells whether an odd number
-- of them holds the point, and its planes are among theirs
pub record IsParityOf (planes : List Plane) (regions : List Region) (t : Tree) : Type 0 where
  pub value : (q : Point) → IsPoint q → IsInsideCube q → IsOffSides planes (all_sides regions) q → value_of planes t q ≡ Some (lies_in_oddly planes regions q)
  pub among : (k : ℕ) → IsPlaneOf k t → (s : Step) × Contains (all_sides regions) s × (s.plane.k ≡ k)
