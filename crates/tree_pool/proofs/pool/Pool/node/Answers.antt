use Rattle.std.proofs.Common.{◌≡◌, ◌≢◌, Some, ap, subst}
use Rattle.std.proofs.lemmas.Result.{IfOk-weaker}
use Rattle.tree_pool.specs.declared.node.TreeId.{TreeId}
use Rattle.tree_pool.specs.declared.node.PoolNode.TheVariants.{Node}
use Rattle.tree_pool.specs.Trees.{Tree, node, IsTreeOver}
use Rattle.tree_pool.specs.Pools.{node_at, AreTrees, StandsFor, IsLive}
use Rattle.tree_pool.proofs.Pools.{trees_of_pool, one_tree, one_number, trees_kept, live_kept, live_node}
use Rattle.tree_pool.proofs.Overs.{over_node, over_same}
use Rattle.tree_pool.proofs.pool.Pool.node.Goals as goal

pub returns-then-front-back-clause-trees : goal.returns-then-front-back-clause-trees
returns-then-front-back-clause-trees c = subst AreTrees c.self.view_is (trees_of_pool c.self.inside.slots.slots c.self.invariant.0)

pub returns-then-front-back-clause-stands : goal.returns-then-front-back-clause-stands
returns-then-front-back-clause-stands c f g s w differ =
    let same : c.args.front ≡ c.args.back = λ t. record { key = c.if-front-back.true t } in
    absurd (differ (one_tree c.args.self.now f g c.args.back (subst (λ i. StandsFor c.args.self.now i f) same s) w))

pub returns-clause-kept : goal.returns-clause-kept
returns-clause-kept c = trees_kept c.args.self.now c.branch-self.new.self c.branch-self.ensures.kept

pub returns-clause-trees : goal.returns-clause-trees
returns-clause-trees c = trees_of_pool c.branch-self.new.self c.branch-self.ensures.pools.1

pub returns-clause-joined : goal.returns-clause-joined
returns-clause-joined c = IfOk-weaker c.branch-self.result
    (λ (id : TreeId). node_at c.branch-self.new.self id ≡ Some (Node c.args.plane c.args.front c.args.back))
    (λ (id : TreeId). (f : Tree) (g : Tree) → StandsFor c.args.self.now c.args.front f → StandsFor c.args.self.now c.args.back g → f ≡ g → StandsFor c.branch-self.new.self id f)
    (λ id top f g s w e. absurd (c.if-front-back.false (ap (λ (i : TreeId). i.key) (one_number c.args.self.now c.branch-self.ensures.pools.0 g c.args.front c.args.back (subst (StandsFor c.args.self.now c.args.front) e s) w))))
    c.branch-self.ensures.top

pub returns-clause-stands : goal.returns-clause-stands
returns-clause-stands c = IfOk-weaker c.branch-self.result
    (λ (id : TreeId). node_at c.branch-self.new.self id ≡ Some (Node c.args.plane c.args.front c.args.back))
    (λ (id : TreeId). (f : Tree) (g : Tree) → StandsFor c.args.self.now c.args.front f → StandsFor c.args.self.now c.args.back g → f ≢ g → StandsFor c.branch-self.new.self id (node c.args.plane.k f g))
    (λ id top f g s w e.
    let kept = trees_kept c.args.self.now c.branch-self.new.self c.branch-self.ensures.kept in
    (c.args.front, c.args.back, top, kept c.args.front f s, kept c.args.back g w))
    c.branch-self.ensures.top

pub returns-then-front-back-clause-over : goal.returns-then-front-back-clause-over
returns-then-front-back-clause-over c f g t s w z =
    let same : c.args.front ≡ c.args.back = λ i. record { key = c.if-front-back.true i } in
    over_same c.args.plane.k f g t (one_tree c.args.self.now f g c.args.back (subst (λ i. StandsFor c.args.self.now i f) same s) w) (one_tree c.args.self.now f t c.args.front s z)

pub returns-clause-over : goal.returns-clause-over
returns-clause-over c = IfOk-weaker c.branch-self.result
    (λ (id : TreeId). node_at c.branch-self.new.self id ≡ Some (Node c.args.plane c.args.front c.args.back))
    (λ (id : TreeId). (f : Tree) (g : Tree) (t : Tree) → StandsFor c.args.self.now c.args.front f → StandsFor c.args.self.now c.args.back g → StandsFor c.branch-self.new.self id t → IsTreeOver c.args.plane.k f g t)
    (λ id top f g t s w z.
    let kept = trees_kept c.args.self.now c.branch-self.new.self c.branch-self.ensures.kept in
    over_node c.args.plane.k f g t (one_tree c.branch-self.new.self (node c.args.plane.k f g) t id (c.args.front, c.args.back, top, kept c.args.front f s, kept c.args.back g w) z))
    c.branch-self.ensures.top

pub returns-clause-still_live : goal.returns-clause-still_live
returns-clause-still_live c = live_kept c.args.self.now c.branch-self.new.self c.branch-self.ensures.kept

pub returns-clause-live : goal.returns-clause-live
returns-clause-live c = IfOk-weaker c.branch-self.result
    (λ (id : TreeId). node_at c.branch-self.new.self id ≡ Some (Node c.args.plane c.args.front c.args.back))
    (λ (id : TreeId). IsLive c.branch-self.new.self id)
    (λ id top. live_node c.branch-self.new.self id (Node c.args.plane c.args.front c.args.back) top)
    c.branch-self.ensures.top
