-- When a tree is that of an element, and when it is tight.
use Rattle.std.specs.Prelude.{◌≡◌, ◌≢◌, ℕ, pos, negsuc, ◌*ℤ◌, ◌<ℤ◌, false, List, slice_get, Some}
use Rattle.spec_space.specs.declared.Plane.{Plane}
use Rattle.spec_space.specs.declared.Point.{Point}
use Rattle.spec_space.specs.Points.{IsPoint, value}
use Rattle.spec_solid.specs.Solids.{Body, is_meant}
use Rattle.spec_solid.specs.Planes.{IsPlaneOf}
use Rattle.plane_core.specs.declared.numbers.Plane.{Plane as BookPlane}
use Rattle.plane_core.specs.Views.{plane_of}
use Rattle.poly_frag.specs.Cubes.{IsInsideCube}
use Rattle.tree_pool.specs.Trees.{Tree, value_of, IsOff}
use Rattle.tree_pool.specs.Trees.{IsPlaneOf as HasPlane}

-- at each point strictly inside the enclosing cube and off the planes of the element the tree has the element's meaning,
-- and its planes are planes of the element
pub record IsElementTree (planes : List BookPlane) (body : Body) (t : Tree) : Type 0 where
  pub value : (q : Point) → IsPoint q → IsInsideCube q → ((h : Plane) → IsPlaneOf body h → value h q ≢ pos 0) → value_of planes t q ≡ Some (is_meant body q)
  pub among : (n : ℕ) → HasPlane n t → (p : BookPlane) × (slice_get planes n ≡ Some p) × IsPlaneOf body (plane_of p)

-- a coordinate of the point has a size above 2^20
pub data IsOut (q : Point) : Type 0 where
  out_left : q.x <ℤ (negsuc 1048575 *ℤ q.w) → IsOut q
  out_right : (pos 1048576 *ℤ q.w) <ℤ q.x → IsOut q
  out_front : q.y <ℤ (negsuc 1048575 *ℤ q.w) → IsOut q
  out_back : (pos 1048576 *ℤ q.w) <ℤ q.y → IsOut q
  out_down : q.z <ℤ (negsuc 1048575 *ℤ q.w) → IsOut q
  out_up : (pos 1048576 *ℤ q.w) <ℤ q.z → IsOut q

-- the tree is false at each point strictly inside the enclosing cube and off its planes that has a coordinate of a size
-- above 2^20
abbrev pub IsTight : List BookPlane → Tree → Type 0
IsTight planes t = (q : Point) → IsPoint q → IsInsideCube q → IsOff planes t q → IsOut q → value_of planes t q ≡ Some false
