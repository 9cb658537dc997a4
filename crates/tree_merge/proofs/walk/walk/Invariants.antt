use Rattle.tree_pool.specs.Pools.{KeepsTrees, AreTrees}
use Rattle.tree_merge.specs.Works.{Two, StandForTwo, IsWalkFor, walk_weight}
use Rattle.tree_merge.proofs.walk.walk.Given as goal

-- the walk leads to the merge of the trees with which it began
abbrev pub invariant-walk : goal.invariant-walk
invariant-walk l = record {
  kept : KeepsTrees l.fn.pool l.pool;
  trees : AreTrees l.pool;
  walk : (w : Two) → StandForTwo l.fn.pool l.fn.work.pair w → IsWalkFor l.pool l.book l.table (record { steps = l.fn.work.cell.steps.items; trees = w }) l.state l.frames.items;
}

abbrev pub decreases-walk : goal.decreases-walk
decreases-walk l = walk_weight l.pool l.state l.frames.items
