use Rattle.std.proofs.Common.{subst, false}
use Rattle.std.proofs.lemmas.Result.{IfOk-weaker}
use Rattle.tree_pool.specs.declared.node.TreeId.{TreeId}
use Rattle.tree_pool.specs.Trees.{Tree}
use Rattle.tree_pool.specs.Pools.{StandsFor}
use Rattle.parity_trees.specs.Regions.{IsParityOf}
use Rattle.parity_trees.specs.Works.{IsMadeFor}
use Rattle.parity_trees.proofs.Tops.{counted}
use Rattle.parity_trees.proofs.walk.parity_tree.Goals as goal

pub returns-clause-parity : goal.returns-clause-parity
returns-clause-parity c =
    let planes = c.args.book.now in
    let new = c.walk.new.pool in
    IfOk-weaker c.walk.result
    (IsMadeFor new planes (record { steps = c.in_ok-cell.cell.steps.items; sum = record { regions = c.args.regions.items; odd = false } }))
    (λ (id : TreeId). (t : Tree) → StandsFor new id t → IsParityOf planes c.args.regions.items t)
    (λ id made.
    counted planes new c.walk.ensures.trees id c.args.regions.items
    (subst (λ steps. IsMadeFor new planes (record { steps = steps; sum = record { regions = c.args.regions.items; odd = false } }) id) c.in_ok-cell.ensures.steps made))
    c.walk.ensures.made
