-- What a pool keeps of what some numbers reach, and that it has nothing else.
use Rattle.std.specs.Prelude.{List}
use Rattle.tree_pool.specs.declared.node.TreeId.{TreeId}
use Rattle.tree_pool.specs.Trees.{Tree}
use Rattle.tree_pool.specs.Pools.{Slots, IsLive, StandsFor}
use Rattle.tree_pool.specs.Kept.{IsKept}

-- each leaf and each number that the roots reach has in the new pool the tree that it had
abbrev pub KeepsTreesOf : List TreeId → Slots → Slots → Type 0
KeepsTreesOf roots old new = (id : TreeId) (t : Tree) → IsKept old roots id → StandsFor old id t → StandsFor new id t

-- each live number is one of the leaves, or a root reaches it
abbrev pub HasOnly : List TreeId → Slots → Type 0
HasOnly roots pool = (id : TreeId) → IsLive pool id → IsKept pool roots id
