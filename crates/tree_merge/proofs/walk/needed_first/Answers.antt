use Rattle.std.proofs.Common.{false}
use Rattle.tree_pool.specs.Trees.{leaf}
use Rattle.tree_merge.proofs.Tops.{needless}
use Rattle.tree_merge.proofs.walk.needed_first.Goals as goal

pub returns-then-ignores_first-clause-needed : goal.returns-then-ignores_first-clause-needed
returns-then-ignores_first-clause-needed c f s =
    let same = c.ignores_first.ensures.value.0 c.if-ignores_first.true in
    (leaf false, c.leaf.ensures.stands, λ planes g t m. needless planes c.args.table same.0 same.1 f g t m)
