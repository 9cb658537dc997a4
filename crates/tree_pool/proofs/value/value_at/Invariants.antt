use Rattle.std.proofs.Common.{◌≡◌}
use Rattle.plane_core.specs.Views.{point_of}
use Rattle.tree_pool.specs.Trees.{Tree, value_of}
use Rattle.tree_pool.specs.Pools.{IsLive, StandsFor, rank_at}
use Rattle.tree_pool.proofs.value.value_at.Given as goal

-- the walk has come to a live number, whose tree has the value that is sought
abbrev pub invariant-loop-value : goal.invariant-loop-value
invariant-loop-value l = record {
  live : IsLive l.pool l.at;
  way : (t : Tree) → StandsFor l.pool l.fn.id t → (u : Tree) × StandsFor l.pool l.at u × (value_of l.book t (point_of l.c) ≡ value_of l.book u (point_of l.c));
}

abbrev pub decreases-loop-value : goal.decreases-loop-value
decreases-loop-value l = rank_at l.pool l.at
