-- When the index of a pool agrees with its slots.
use Rattle.std.specs.Prelude.{◌≡◌, ◌↔◌, ℕ, Bool, false, ◌&&◌, nat_eq, Some}
use mathlib.Core.Bool.{beq}
use Rattle.indexmap.specs.IndexMap.{IndexMap, get}
use Rattle.tree_pool.specs.declared.node.PoolNode.{PoolNode}
use Rattle.tree_pool.specs.declared.node.PoolNode.TheVariants.{Leaf, Node}
use Rattle.tree_pool.specs.Pools.{Slots, node_at}

-- the test of equal nodes
abbrev pub node_eq : PoolNode → PoolNode → Bool
node_eq (Leaf a) (Leaf b) = beq a b
node_eq (Leaf a) (Node p i j) = false
node_eq (Node p i j) (Leaf b) = false
node_eq (Node p i j) (Node q k l) = nat_eq p.k q.k && (nat_eq i.key k.key && nat_eq j.key l.key)

-- the index finds under a node the number that has it, and nothing else
abbrev pub IsIndexOf : {S : Type 0} → Slots → IndexMap PoolNode ℕ S → Type 0
IsIndexOf pool index = (n : PoolNode) (k : ℕ) → (get node_eq index n ≡ Some k) ↔ (node_at pool (record { key = k }) ≡ Some n)
