use Rattle.tree_pool.specs.declared.node.TreeId.{TreeId}
use Rattle.tree_pool.specs.Pools.{IsLive}
use Rattle.tree_trials.proofs.trees.nested.Given as goal

abbrev pub invariant-loop-k : goal.invariant-loop-k
invariant-loop-k l = record {
  tree : IsLive l.pool l.tree;
  outer : IsLive l.pool l.outer;
  still_live : (id : TreeId) → IsLive l.fn.pool id → IsLive l.pool id;
}
