-- Laws of trees and of pools for the crates above.
use Rattle.std.proofs.Common.{◌≡◌, ◌<◌, ℕ, zero, suc, max, Bool, List, Some, ℤ, pos, negsuc, slice_get, refl, sym, ap, ◌∙◌, inl, inr, arith}
use Rattle.std.specs.Prelude.{◌≢◌}
use Rattle.spec_space.specs.declared.Point.{Point}
use Rattle.plane_core.specs.declared.numbers.Plane.{Plane}
use Rattle.plane_core.specs.declared.book.PlaneId.{PlaneId}
use Rattle.tree_pool.specs.declared.node.TreeId.{TreeId}
use Rattle.tree_pool.specs.declared.node.PoolNode.TheVariants.{Node}
use Rattle.tree_pool.specs.Trees.{Tree, leaf, node, height_of, level_by, choose, value_of, IsPlaneOf, IsOff}
use Rattle.tree_pool.specs.Pools.{Slots, node_at, rank_at, IsLive, StandsFor, KeepsTrees, AreTrees}
use Rattle.tree_pool.proofs.Walks.{parts}

chosen : {X : Type 0} (v : ℤ) (a b : X) → v ≢ pos 0 → (x : X) × (choose v (Some a) (Some b) ≡ Some x)
chosen (pos zero) a b off = absurd (off refl)
chosen (pos (suc n)) a b off = (a, refl)
chosen (negsuc n) a b off = (b, refl)

-- a point off the planes of a tree has a value
pub has_value : (planes : List Plane) (t : Tree) (q : Point) → IsOff planes t q → (b : Bool) × (value_of planes t q ≡ Some b)
has_value planes (leaf b) q off = (b, refl)
has_value planes (node k f g) q off =
    let front = has_value planes f q (λ h is. off h (inr (inl is))) in
    let back = has_value planes g q (λ h is. off h (inr (inr is))) in
    let v = level_by (slice_get planes k) q in
    let x = chosen v front.0 back.0 (off k (inl refl)) in
    (x.0, (λ i. choose v (front.1 i) (back.1 i)) ∙ x.1)

-- where the planes of a tree keep their numbers, it keeps its values
pub value_kept : (old new : List Plane) (t : Tree) (q : Point) → ((k : ℕ) → IsPlaneOf k t → slice_get new k ≡ slice_get old k) → value_of new t q ≡ value_of old t q
value_kept old new (leaf b) q same = refl
value_kept old new (node k f g) q same =
    let front = value_kept old new f q (λ h is. same h (inr (inl is))) in
    let back = value_kept old new g q (λ h is. same h (inr (inr is))) in
    let here = same k (inl refl) in
    λ i. choose (level_by (here i) q) (front i) (back i)

-- the parts of a tree are lower
lower_front : (a b : ℕ) → a < suc (max a b)
lower_front a b = omega arith

lower_back : (a b : ℕ) → b < suc (max a b)
lower_back a b = omega arith

-- what stands under the number of a node: its children stand for the parts of its tree, and are lower
pub record IsOpened (pool : Slots) (at i j : TreeId) (k : ℕ) (t : Tree) : Type 0 where
  pub front : Tree
  pub back : Tree
  pub front_stands : StandsFor pool i front
  pub back_stands : StandsFor pool j back
  pub whole : t ≡ node k front back
  pub front_lower : rank_at pool i < rank_at pool at
  pub back_lower : rank_at pool j < rank_at pool at

pub opened : (pool : Slots) → AreTrees pool → (at : TreeId) (p : PlaneId) (i j : TreeId) → node_at pool at ≡ Some (Node p i j) → (t : Tree) → StandsFor pool at t → IsOpened pool at i j p.k t
opened pool ok at p i j e t s =
    let m = parts pool at p i j e t s in
    let here : rank_at pool at ≡ suc (max (height_of m.0) (height_of m.1)) = ok.height at t s ∙ ap height_of m.4 in
    let left = ok.height i m.0 m.2 in
    let right = ok.height j m.1 m.3 in
    record {
      front = m.0;
      back = m.1;
      front_stands = m.2;
      back_stands = m.3;
      whole = m.4;
      front_lower = rw (left, here) (lower_front (height_of m.0) (height_of m.1));
      back_lower = rw (right, here) (lower_back (height_of m.0) (height_of m.1));
    }

-- a live number keeps its rank and stays live with its tree
module _ (old new : Slots) (before : AreTrees old) (after : AreTrees new) (kept : KeepsTrees old new) where
  pub rank_kept : (id : TreeId) (t : Tree) → StandsFor old id t → rank_at new id ≡ rank_at old id
  rank_kept id t s = after.height id t (kept id t s) ∙ sym (before.height id t s)

  pub live_kept : (id : TreeId) → IsLive old id → IsLive new id
  live_kept id live = let t = before.tree id live in after.live id t.0 (kept id t.0 t.1)
