-- Trees of planes: their values at points, and their planes.
use Rattle.std.specs.Prelude.{◌≡◌, ◌≢◌, ◌⊎◌, ℕ, zero, suc, max, Bool, List, slice_get, Option, Some, None, ℤ, pos, negsuc, ◌<ℤ◌}
use Rattle.spec_space.specs.declared.Point.{Point}
use Rattle.spec_space.specs.Points.{value}
use Rattle.plane_core.specs.Views.{plane_of}
use Rattle.plane_core.specs.declared.numbers.Plane.{Plane}

-- a finite tree: a leaf, or the number of a plane with the trees in front of it and behind it
pub data Tree : Type 0 where
  leaf : Bool → Tree
  node : ℕ → Tree → Tree → Tree

abbrev pub height_of : Tree → ℕ
height_of (leaf b) = 0
height_of (node k front back) = suc (max (height_of front) (height_of back))

-- the value of the plane with a number, and 0 where the book has none
abbrev pub level_by : Option Plane → Point → ℤ
level_by None q = pos 0
level_by (Some p) q = value (plane_of p) q

-- what the front or the back has, by the side; nothing on the plane
abbrev pub choose : {X : Type 0} → ℤ → Option X → Option X → Option X
choose (pos zero) front back = None
choose (pos (suc n)) front back = front
choose (negsuc n) front back = back

-- the leaf that the walk reaches; `None` where it meets a plane that the point lies on
abbrev pub value_of : List Plane → Tree → Point → Option Bool
value_of planes (leaf b) q = Some b
value_of planes (node k front back) q = choose (level_by (slice_get planes k) q) (value_of planes front q) (value_of planes back q)

-- the number is that of a plane of the tree
abbrev pub IsPlaneOf : ℕ → Tree → Type 0
IsPlaneOf k (leaf b) = ⊥
IsPlaneOf k (node h front back) = (k ≡ h) ⊎ (IsPlaneOf k front ⊎ IsPlaneOf k back)

-- the point lies on no plane of the tree
abbrev pub IsOff : List Plane → Tree → Point → Type 0
IsOff planes t q = (k : ℕ) → IsPlaneOf k t → level_by (slice_get planes k) q ≢ pos 0

-- the tree has the value of f in front of the plane k and that of g behind it, and its planes are among k and theirs
pub record IsTreeOver (k : ℕ) (f g t : Tree) : Type 0 where
  pub in_front : (planes : List Plane) (q : Point) → pos 0 <ℤ level_by (slice_get planes k) q → value_of planes t q ≡ value_of planes f q
  pub behind : (planes : List Plane) (q : Point) → level_by (slice_get planes k) q <ℤ pos 0 → value_of planes t q ≡ value_of planes g q
  pub planes : (h : ℕ) → IsPlaneOf h t → (h ≡ k) ⊎ (IsPlaneOf h f ⊎ IsPlaneOf h g)
