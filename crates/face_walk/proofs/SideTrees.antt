-- What is left of a tree on one side of a plane: its values, its planes and its height.
use Rattle.std.proofs.Common.{◌≡◌, inl, inr, ◌≤◌, ◌<◌, ℕ, suc, max, Bool, true, false, cond, nat_eq, List, slice_get, Option, Some, None, ℤ, pos, ◌*ℤ◌, ◌+ℤ◌, ◌-ℤ◌, refl, sym, ap, subst, ◌∙◌, arith}
use Rattle.std.proofs.lemmas.Bool.{eqb-true, eq-eqb}
use Rattle.spec_space.specs.declared.Point.{Point}
use Rattle.spec_space.specs.Points.{value}
use Rattle.plane_core.specs.declared.numbers.Plane.{Plane}
use Rattle.integer_laws.proofs.Products.{zero_left}
use Rattle.poly_frag.specs.Frags.{numbered}
use Rattle.tree_pool.specs.Trees.{Tree, leaf, node, height_of, level_by, value_of, IsPlaneOf}
use Rattle.tree_pool.proofs.Overs.{over_node}
use Rattle.face_walk.specs.Works.{side_tree, IsTop}
use Rattle.face_walk.proofs.Neighbours.{Side}

-- ---- levels
zeros : (x y z w : ℤ) → pos 0 *ℤ x +ℤ pos 0 *ℤ y +ℤ pos 0 *ℤ z -ℤ pos 0 *ℤ w ≡ pos 0
zeros x y z w =
    let a = zero_left (pos 0) x refl in
    let b = zero_left (pos 0) y refl in
    let c = zero_left (pos 0) z refl in
    let d = zero_left (pos 0) w refl in
    λ i. a i +ℤ b i +ℤ c i -ℤ d i

-- the level of a number is the value of its plane
pub level_is : (o : Option Plane) (q : Point) → level_by o q ≡ value (numbered o) q
level_is None q = sym (zeros q.x q.y q.z q.w)
level_is (Some p) q = refl

-- ---- one side
side_value_node : (planes : List Plane) (in_front : Bool) (h : ℕ) (f g : Tree) (q : Point) → Side in_front (level_by (slice_get planes h) q) → value_of planes (cond in_front f g) q ≡ value_of planes (node h f g) q
side_value_node planes true h f g q side = sym ((over_node h f g (node h f g) refl).in_front planes q side)
side_value_node planes false h f g q side = sym ((over_node h f g (node h f g) refl).behind planes q side)

pub side_value : (planes : List Plane) (k : ℕ) (in_front : Bool) (t : Tree) (q : Point) → Side in_front (level_by (slice_get planes k) q) → value_of planes (side_tree k in_front t) q ≡ value_of planes t q
side_value planes k in_front (leaf b) q side = refl
side_value planes k in_front (node h f g) q side = by (nat_eq h k) refl
  where
    by : (same : Bool) → nat_eq h k ≡ same → value_of planes (cond same (cond in_front f g) (node h f g)) q ≡ value_of planes (node h f g) q
    by true e = side_value_node planes in_front h f g q (subst (λ n. Side in_front (level_by (slice_get planes n) q)) (sym (eqb-true h k e)) side)
    by false e = refl

pub side_among : (k : ℕ) (in_front : Bool) (t : Tree) (j : ℕ) → IsPlaneOf j (side_tree k in_front t) → IsPlaneOf j t
side_among k in_front (leaf b) j is = is
side_among k in_front (node h f g) j is = by (nat_eq h k) in_front is
  where
    by : (same in_front : Bool) → IsPlaneOf j (cond same (cond in_front f g) (node h f g)) → IsPlaneOf j (node h f g)
    by true true is = inr (inl is)
    by true false is = inr (inr is)
    by false in_front is = is

-- ---- heights
left_lower : (a b : ℕ) → a < suc (max a b)
left_lower a b = omega arith

right_lower : (a b : ℕ) → b < suc (max a b)
right_lower a b = omega arith

less_is_no_more : (a b : ℕ) → a < b → a ≤ b
less_is_no_more a b h = omega arith

same_is_no_more : (a : ℕ) → a ≤ a
same_is_no_more a = omega arith

part_lower : (in_front : Bool) (h : ℕ) (f g : Tree) → height_of (cond in_front f g) < height_of (node h f g)
part_lower true h f g = left_lower (height_of f) (height_of g)
part_lower false h f g = right_lower (height_of f) (height_of g)

pub side_height : (k : ℕ) (in_front : Bool) (t : Tree) → height_of (side_tree k in_front t) ≤ height_of t
side_height k in_front (leaf b) = same_is_no_more 0
side_height k in_front (node h f g) = by (nat_eq h k)
  where
    by : (same : Bool) → height_of (cond same (cond in_front f g) (node h f g)) ≤ height_of (node h f g)
    by true = less_is_no_more (height_of (cond in_front f g)) (height_of (node h f g)) (part_lower in_front h f g)
    by false = same_is_no_more (height_of (node h f g))

pub top_height : (k : ℕ) (in_front : Bool) (t : Tree) → IsTop k t → height_of (side_tree k in_front t) < height_of t
top_height k in_front (leaf b) top = absurd top
top_height k in_front (node h f g) top =
    let same : nat_eq h k ≡ true = ap (λ n. nat_eq h n) top ∙ eq-eqb h h refl in
    subst (λ b. height_of (cond b (cond in_front f g) (node h f g)) < height_of (node h f g)) (sym same) (part_lower in_front h f g)
