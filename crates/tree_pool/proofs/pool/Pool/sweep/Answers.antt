use Rattle.std.proofs.Common.{◌↔◌, Contains, sym, subst, true, false}
use Rattle.tree_pool.specs.declared.node.TreeId.{TreeId}
use Rattle.tree_pool.specs.Trees.{Tree}
use Rattle.tree_pool.specs.Pools.{IsLive, AreTrees, StandsFor, Slots}
use Rattle.tree_pool.specs.Kept.{IsKept}
use Rattle.tree_pool.proofs.Pools.{trees_of_pool}
use Rattle.tree_pool.proofs.Reached.{begins_live}
use Rattle.tree_pool.proofs.Swept.{swept_pool, swept_trees, swept_live, swept_leaf}
use Rattle.tree_pool.proofs.pool.Pool.sweep.Goals as goal

pub returns-in_err-seen-clause-trees : goal.returns-in_err-seen-clause-trees
returns-in_err-seen-clause-trees c = subst AreTrees c.self.view_is (trees_of_pool c.self.inside.slots.slots c.self.invariant.0)

pub invariant_of-self : goal.invariant_of-self
invariant_of-self c =
    let old = c.self.inside.slots.slots in
    let new = c.drop_others.new.slots.slots in (
      swept_pool old new c.in_ok-seen.seen.keys c.args.roots.now c.self.invariant.0 c.in_ok-seen.ensures.kept c.drop_others.ensures.stay c.drop_others.ensures.gone,
      c.drop_others.ensures.agrees,
      swept_leaf old new c.in_ok-seen.seen.keys c.args.roots.now c.self.invariant.0 c.in_ok-seen.ensures.kept c.drop_others.ensures.stay c.drop_others.ensures.gone c.self.inside.no false c.self.invariant.2,
      swept_leaf old new c.in_ok-seen.seen.keys c.args.roots.now c.self.invariant.0 c.in_ok-seen.ensures.kept c.drop_others.ensures.stay c.drop_others.ensures.gone c.self.inside.yes true c.self.invariant.3,
    )

pub returns-clause-live : goal.returns-clause-live
returns-clause-live c =
    let old = c.self.inside.slots.slots in
    let new = c.drop_others.new.slots.slots in
    let live : (x : TreeId) → Contains c.args.roots.now x → IsLive old x = λ x h. subst (λ o. IsLive o x) (sym c.self.view_is) (c.requires.live x h) in
    subst (λ (o : Slots). (id : TreeId) → IsLive new id ↔ IsKept o c.args.roots.now id) c.self.view_is
    (swept_live old new c.in_ok-seen.seen.keys c.args.roots.now c.self.invariant.0 c.in_ok-seen.ensures.kept c.drop_others.ensures.stay c.drop_others.ensures.gone
    (begins_live old c.args.roots.now c.self.inside.no c.self.inside.yes c.self.invariant.2 c.self.invariant.3 live))

pub returns-clause-kept : goal.returns-clause-kept
returns-clause-kept c =
    let old = c.self.inside.slots.slots in
    let new = c.drop_others.new.slots.slots in
    subst (λ (o : Slots). (id : TreeId) (t : Tree) → IsKept o c.args.roots.now id → StandsFor o id t → StandsFor new id t) c.self.view_is
    (λ id t. swept_trees old new c.in_ok-seen.seen.keys c.args.roots.now c.self.invariant.0 c.in_ok-seen.ensures.kept c.drop_others.ensures.stay c.drop_others.ensures.gone t id)

pub returns-clause-pool : goal.returns-clause-pool
returns-clause-pool c =
    swept_pool c.self.inside.slots.slots c.drop_others.new.slots.slots c.in_ok-seen.seen.keys c.args.roots.now c.self.invariant.0 c.in_ok-seen.ensures.kept c.drop_others.ensures.stay c.drop_others.ensures.gone

pub returns-clause-trees : goal.returns-clause-trees
returns-clause-trees c = trees_of_pool c.drop_others.new.slots.slots
    (swept_pool c.self.inside.slots.slots c.drop_others.new.slots.slots c.in_ok-seen.seen.keys c.args.roots.now c.self.invariant.0 c.in_ok-seen.ensures.kept c.drop_others.ensures.stay c.drop_others.ensures.gone)
