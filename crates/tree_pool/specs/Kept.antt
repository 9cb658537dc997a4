-- What is reached from a list of numbers, and what a sweep keeps.
use Rattle.std.specs.Prelude.{◌≡◌, ◌⊎◌, ℕ, zero, suc, Bool, List, Contains, slice_get, Some}
use Rattle.plane_core.specs.declared.book.PlaneId.{PlaneId}
use Rattle.tree_pool.specs.declared.node.TreeId.{TreeId}
use Rattle.tree_pool.specs.declared.node.PoolNode.TheVariants.{Leaf, Node}
use Rattle.tree_pool.specs.Pools.{Slots, node_at}

-- the second number is in front of the first, or behind it
abbrev pub IsChild : Slots → TreeId → TreeId → Type 0
IsChild pool id child = (p : PlaneId) × (i : TreeId) × (j : TreeId) × (node_at pool id ≡ Some (Node p i j)) × ((child ≡ i) ⊎ (child ≡ j))

-- a number is reached in so many steps from those that begin
abbrev pub ReachedIn : Slots → (TreeId → Type 0) → ℕ → TreeId → Type 0
ReachedIn pool begins zero id = begins id
ReachedIn pool begins (suc n) id = (above : TreeId) × ReachedIn pool begins n above × IsChild pool above id

abbrev pub IsLeaf : Slots → TreeId → Type 0
IsLeaf pool id = (b : Bool) × (node_at pool id ≡ Some (Leaf b))

-- the number is one of the leaves, or a root reaches it
abbrev pub IsKept : Slots → List TreeId → TreeId → Type 0
IsKept pool roots id = (n : ℕ) × ReachedIn pool (λ x. IsLeaf pool x ⊎ Contains roots x) n id

-- the list has one number more at its end, or had it before
pub record IsNoted (old new : List TreeId) (id : TreeId) : Type 0 where
  pub has : Contains new id
  pub only : (x : TreeId) → Contains new x → Contains old x ⊎ (id ≡ x)
  pub kept : (x : TreeId) → Contains old x → Contains new x
  pub places : (k : ℕ) (x : TreeId) → slice_get old k ≡ Some x → slice_get new k ≡ Some x

-- no number stands twice in the list
abbrev pub IsOnce : List TreeId → Type 0
IsOnce ids = (i j : ℕ) (x : TreeId) → slice_get ids i ≡ Some x → slice_get ids j ≡ Some x → i ≡ j
