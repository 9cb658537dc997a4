use Rattle.solid_tree.proofs.Trees.{merged_has}
use Rattle.solid_tree.proofs.unions.combined.Goals as goal

pub returns-clause-combined : goal.returns-clause-combined
returns-clause-combined c =
    let planes = c.args.book.now in
    let old = c.args.pool.now in
    let new = c.merge.new.pool in
    merged_has planes old new c.args.first c.args.second c.args.operator c.table.result c.merge.result c.table.ensures.value c.merge.ensures.trees c.merge.ensures.live c.merge.ensures.merged
