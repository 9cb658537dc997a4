use Rattle.tree_pool.specs.Pools.{KeepsTrees, AreTrees}
use Rattle.parity_trees.specs.Works.{IsWalkFor, sum_of, walk_weight}
use Rattle.parity_trees.proofs.walk.walk.Given as goal

-- the walk leads to the tree of the count with which it began
abbrev pub invariant-walk : goal.invariant-walk
invariant-walk l = record {
  kept : KeepsTrees l.fn.pool l.pool;
  trees : AreTrees l.pool;
  walk : IsWalkFor l.pool l.book (record { steps = l.fn.work.cell.steps.items; sum = sum_of l.fn.work.count }) l.state l.frames.items;
}

abbrev pub decreases-walk : goal.decreases-walk
decreases-walk l = walk_weight l.state l.frames.items
