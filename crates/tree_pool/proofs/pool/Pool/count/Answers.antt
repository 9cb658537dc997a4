use Rattle.std.proofs.Common.{subst}
use Rattle.tree_pool.specs.Pools.{AreTrees}
use Rattle.tree_pool.proofs.Pools.{trees_of_pool}
use Rattle.tree_pool.proofs.pool.Pool.count.Goals as goal

pub returns-clause-trees : goal.returns-clause-trees
returns-clause-trees c = subst AreTrees c.self.view_is (trees_of_pool c.self.inside.slots.slots c.self.invariant.0)
