use Rattle.std.proofs.Common.{sym, subst}
use Rattle.tree_merge.specs.declared.work.State.TheVariants.{Down}
use Rattle.tree_merge.specs.Works.{IsWalkFor, IsTurn, GoesOn}
use Rattle.tree_merge.proofs.Tops.{begins, some_two}
use Rattle.tree_merge.proofs.walk.walk.Goals as goal

pub walk-init : goal.walk-init
walk-init c = record {
  kept = λ id t s. s;
  trees = c.count-live.ensures.trees;
  walk = λ w stand. subst (λ frames. IsWalkFor c.args.pool.now c.args.book.now c.args.table (record { steps = c.args.work.cell.steps.items; trees = w }) (Down c.args.work) frames) (sym c.new-frames.ensures.items)
      (begins c.args.book.now c.args.table c.args.pool.now c.args.work w c.requires.cell stand);
}

pub turn-requires-clause-walk : goal.turn-requires-clause-walk
turn-requires-clause-walk c =
    let w = some_two c.args.pool.now c.count-live.ensures.trees c.args.work.pair c.requires.live in
    (record { steps = c.args.work.cell.steps.items; trees = w.0 }, c.walk.invariant.walk w.0 w.1)

pub walk-smaller : goal.walk-smaller
walk-smaller c =
    let w = some_two c.args.pool.now c.count-live.ensures.trees c.args.work.pair c.requires.live in
    let on : GoesOn c.args.book.now c.args.table c.walk.pool c.walk.state c.walk.frames.items c.turn.new.pool c.in-On.next c.turn.new.frames.items =
    subst (IsTurn c.args.book.now c.args.table c.walk.pool c.walk.state c.walk.frames.items c.turn.new.pool c.turn.new.frames.items) c.in-On.is c.in_ok-next.ensures.turn in
    (on (record { steps = c.args.work.cell.steps.items; trees = w.0 }) (c.walk.invariant.walk w.0 w.1)).1

pub returns-in-Done-clause-live : goal.returns-in-Done-clause-live
returns-in-Done-clause-live c =
    let w = some_two c.args.pool.now c.count-live.ensures.trees c.args.work.pair c.requires.live in
    let done = subst (IsTurn c.args.book.now c.args.table c.walk.pool c.walk.state c.walk.frames.items c.turn.new.pool c.turn.new.frames.items) c.in-Done.is c.in_ok-next.ensures.turn in
    let made = done (record { steps = c.args.work.cell.steps.items; trees = w.0 }) (c.walk.invariant.walk w.0 w.1) in
    c.in_ok-next.ensures.trees.live c.in-Done.id made.tree made.stands
