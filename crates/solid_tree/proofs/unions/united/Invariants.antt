use Rattle.std.proofs.Common.{All, length, Bool, List}
use Rattle.spec_space.specs.declared.Plane.{Plane}
use Rattle.spec_space.specs.declared.Point.{Point}
use Rattle.tree_pool.specs.Pools.{IsLive, KeepsTrees, AreTrees}
use Rattle.solid_tree.specs.Unions.{AreUnited}
use Rattle.solid_tree.proofs.unions.united.Given as goal

-- the trees that are left have the union of those with which the loop began
abbrev pub invariant-loop-alloc : goal.invariant-loop-alloc
invariant-loop-alloc l = record {
  live : All (IsLive l.pool) l.trees.items;
  kept : KeepsTrees l.fn.pool l.pool;
  trees : AreTrees l.pool;
  united : (ks : List Plane) (p : Point → Bool) → AreUnited l.fn.pool l.book ks p l.fn.trees.items → AreUnited l.pool l.book ks p l.trees.items;
}

abbrev pub decreases-loop-alloc : goal.decreases-loop-alloc
decreases-loop-alloc l = length l.trees.items
