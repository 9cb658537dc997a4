use Rattle.std.proofs.Common.{subst}
use Rattle.std.proofs.lemmas.Result.{IfOk-weaker}
use Rattle.tree_pool.specs.declared.node.TreeId.{TreeId}
use Rattle.tree_pool.specs.Trees.{Tree}
use Rattle.tree_pool.specs.Pools.{StandsFor}
use Rattle.tree_merge.specs.Tables.{IsMergeOf}
use Rattle.tree_merge.specs.Works.{Two, StandForTwo, IsMadeFor}
use Rattle.tree_merge.proofs.Tops.{merged}
use Rattle.tree_merge.proofs.walk.merge.Goals as goal

pub returns-clause-merged : goal.returns-clause-merged
returns-clause-merged c =
    let planes = c.args.book.now in
    let old = c.args.pool.now in
    let new = c.walk.new.pool in
    IfOk-weaker c.walk.result
    (λ (id : TreeId). (w : Two) → StandForTwo old (record { first = c.needed_first-first.result; second = c.args.b }) w → IsMadeFor new planes c.args.table (record { steps = c.in_ok-cell.cell.steps.items; trees = w }) id)
    (λ (id : TreeId). (f : Tree) (g : Tree) (t : Tree) → StandsFor old c.args.a f → StandsFor old c.args.b g → StandsFor new id t → IsMergeOf planes c.args.table f g t)
    (λ id made f g t first second stands.
    let h = c.needed_first-first.ensures.needed f first in
    let w : Two = record { first = h.0; second = g } in
    let whole = subst (λ steps. IsMadeFor new planes c.args.table (record { steps = steps; trees = w }) id) c.in_ok-cell.ensures.steps (made w (h.1, second)) in
    h.2 planes g t (merged planes c.args.table new c.walk.ensures.trees id h.0 g t whole stands))
    c.walk.ensures.made
