-- Pools, as lists of slots, and what a number of a pool stands for.
use Rattle.std.specs.Prelude.{◌≡◌, ◌⊎◌, ◌<◌, ℕ, suc, max, List, slice_index_or, count_by, is_some, Option, Some, None, IsSome}
use Rattle.tree_pool.specs.Trees.{Tree, leaf, node, height_of}
use Rattle.tree_pool.specs.declared.node.TreeId.{TreeId}
use Rattle.tree_pool.specs.declared.node.Slot.{Slot}
use Rattle.tree_pool.specs.declared.node.PoolNode.{PoolNode}
use Rattle.tree_pool.specs.declared.node.PoolNode.TheVariants.{Leaf, Node}

abbrev pub Slots : Type 0
Slots = List (Option Slot)

abbrev pub slot_at : Slots → ℕ → Option Slot
slot_at pool k = slice_index_or pool k None

abbrev pub node_by : Option Slot → Option PoolNode
node_by None = None
node_by (Some s) = Some s.node

abbrev pub rank_by : Option Slot → ℕ
rank_by None = 0
rank_by (Some s) = s.rank

-- the top of the tree with a number
abbrev pub node_at : Slots → TreeId → Option PoolNode
node_at pool id = node_by (slot_at pool id.key)

-- the height of the tree with a number
abbrev pub rank_at : Slots → TreeId → ℕ
rank_at pool id = rank_by (slot_at pool id.key)

-- the number is live
abbrev pub IsLive : Slots → TreeId → Type 0
IsLive pool id = IsSome (slot_at pool id.key)

-- how many numbers are live
abbrev pub live_count : Slots → ℕ
live_count pool = count_by is_some pool

-- the number is live, and stands for the tree
abbrev pub StandsFor : Slots → TreeId → Tree → Type 0
StandsFor pool id (leaf b) = node_at pool id ≡ Some (Leaf b)
StandsFor pool id (node p f g) = (i : TreeId) × (j : TreeId) × (node_at pool id ≡ Some (Node (record { k = p }) i j)) × StandsFor pool i f × StandsFor pool j g

-- each live number is live in the new pool, with the tree that it had
abbrev pub KeepsTrees : Slots → Slots → Type 0
KeepsTrees old new = (id : TreeId) (t : Tree) → StandsFor old id t → StandsFor new id t

-- the rank of a node is one above the higher of its children's, which are live
abbrev pub IsBuilt : Slots → ℕ → PoolNode → Type 0
IsBuilt pool rank (Leaf b) = rank ≡ 0
IsBuilt pool rank (Node plane i j) = IsLive pool i × IsLive pool j × (i ≡ j → ⊥) × (rank ≡ suc (max (rank_at pool i) (rank_at pool j)))

-- each number that was live is live, with the node that it had
abbrev pub KeepsNodes : Slots → Slots → Type 0
KeepsNodes old new = (id : TreeId) (n : PoolNode) → node_at old id ≡ Some n → node_at new id ≡ Some n

-- no number but this one became live, and no node changed
abbrev pub AddsOnly : Slots → Slots → TreeId → Type 0
AddsOnly old new id = (other : TreeId) (n : PoolNode) → node_at new other ≡ Some n → (other ≡ id) ⊎ (node_at old other ≡ Some n)

-- what every pool keeps
pub record IsPool (pool : Slots) : Type 0 where
  -- no node has two numbers
  pub one_number : (n : PoolNode) (i j : TreeId) → node_at pool i ≡ Some n → node_at pool j ≡ Some n → i ≡ j
  -- the children of a node are live, differ, and are lower
  pub built : (id : TreeId) (s : Slot) → slot_at pool id.key ≡ Some s → IsBuilt pool s.rank s.node
  -- a tree is lower than there are live numbers
  pub low : (id : TreeId) (s : Slot) → slot_at pool id.key ≡ Some s → s.rank < live_count pool

-- a live number stands for one tree, of which the rank is the height, and a tree has one number at most
pub record AreTrees (pool : Slots) : Type 0 where
  pub tree : (id : TreeId) → IsLive pool id → (t : Tree) × StandsFor pool id t
  pub one_tree : (id : TreeId) (t u : Tree) → StandsFor pool id t → StandsFor pool id u → t ≡ u
  pub one_number : (i j : TreeId) (t : Tree) → StandsFor pool i t → StandsFor pool j t → i ≡ j
  pub live : (id : TreeId) (t : Tree) → StandsFor pool id t → IsLive pool id
  pub height : (id : TreeId) (t : Tree) → StandsFor pool id t → rank_at pool id ≡ height_of t
  pub low : (id : TreeId) → IsLive pool id → rank_at pool id < live_count pool
