use Rattle.tree_pool.specs.Pools.{IsLive}
use Rattle.tree_trials.proofs.merges.first_faulty.Given as goal

abbrev pub invariant-loop-bits : goal.invariant-loop-bits
invariant-loop-bits l = IsLive l.pool l.a × IsLive l.pool l.b
