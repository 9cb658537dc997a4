use Rattle.std.proofs.Common.{length, All}
use Rattle.tree_pool.specs.Trees.{Tree}
use Rattle.tree_pool.specs.Pools.{StandsFor}
use Rattle.face_walk.specs.Works.{IsFit, IsPathOf, IsSafeVisit, IsFragmentFace, AreStacked, visits_weight}
use Rattle.face_walk.proofs.Opened.{IsWalk}
use Rattle.face_walk.proofs.visits.walk.Given as goal

-- what the walk has found, and what is still to be walked
abbrev pub invariant-walk : goal.invariant-walk
invariant-walk l = record {
  path : IsPathOf l.book l.path.items;
  safe : All (IsSafeVisit l.pool l.book) l.visits.items;
  stacked : AreStacked (length l.path.items) l.visits.items;
  fragments : All (IsFragmentFace l.book) l.faces.items;
  walk : (t : Tree) → StandsFor l.pool l.fn.id t → IsFit l.book t → IsWalk l.pool l.book t l.only l.path.items l.visits.items l.faces.items;
}

abbrev pub decreases-walk : goal.decreases-walk
decreases-walk l = visits_weight l.pool l.visits.items
