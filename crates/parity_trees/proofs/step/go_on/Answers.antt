use Rattle.std.proofs.Common.{◌++◌, [], ◌∷◌, sym, subst}
use Rattle.parity_trees.specs.declared.work.Frame.TheVariants.{Join}
use Rattle.parity_trees.specs.declared.work.State.TheVariants.{Down, Up}
use Rattle.parity_trees.specs.Works.{GoesOn}
use Rattle.parity_trees.proofs.Steps.{back_next, join_next}
use Rattle.parity_trees.proofs.step.go_on.Goals as goal

pub returns-in_ok-push-in-Back-clause-walk : goal.returns-in_ok-push-in-Back-clause-walk
returns-in_ok-push-in-Back-clause-walk c planes =
    let pool = c.args.pool.now in
    let frames = c.args.frames.now.items in
    let plane = c.in-Back.plane in
    let work = c.in-Back.work in
    subst (λ fs. GoesOn planes pool (Up c.args.id) (frames ++ c.args.frame ∷ []) pool (Down work) fs) (sym c.in_ok-push-in-Back.ensures.items)
    (subst (λ frame. GoesOn planes pool (Up c.args.id) (frames ++ frame ∷ []) pool (Down work) (frames ++ Join plane c.args.id ∷ [])) (sym c.in-Back.is)
    (back_next planes pool plane work c.args.id frames))

pub returns-in_ok-node-in-Join-clause-walk : goal.returns-in_ok-node-in-Join-clause-walk
returns-in_ok-node-in-Join-clause-walk c planes =
    let old = c.args.pool.now in
    let new = c.node.new.self in
    let frames = c.args.frames.now.items in
    let made = c.in_ok-node-in-Join.field-0 in
    subst (λ frame. GoesOn planes old (Up c.args.id) (frames ++ frame ∷ []) new (Up made) frames) (sym c.in-Join.is)
    (join_next planes old new c.in-Join.plane c.in-Join.front c.args.id made frames c.in_ok-node-in-Join.ensures.kept c.in_ok-node-in-Join.ensures.trees
    c.in_ok-node-in-Join.ensures.live c.in_ok-node-in-Join.ensures.over)
