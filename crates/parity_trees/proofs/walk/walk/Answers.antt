use Rattle.std.proofs.Common.{sym, subst}
use Rattle.parity_trees.specs.declared.work.State.TheVariants.{Down}
use Rattle.parity_trees.specs.Works.{IsWalkFor, IsTurn, GoesOn, sum_of}
use Rattle.parity_trees.proofs.Tops.{begins}
use Rattle.parity_trees.proofs.walk.walk.Goals as goal

pub walk-init : goal.walk-init
walk-init c = record {
  kept = λ id t s. s;
  trees = c.count-live.ensures.trees;
  walk = subst (λ frames. IsWalkFor c.args.pool.now c.args.book.now (record { steps = c.args.work.cell.steps.items; sum = sum_of c.args.work.count }) (Down c.args.work) frames) (sym c.new-frames.ensures.items)
      (begins c.args.book.now c.args.pool.now c.args.work c.requires.cell);
}

pub turn-requires-clause-walk : goal.turn-requires-clause-walk
turn-requires-clause-walk c = (record { steps = c.args.work.cell.steps.items; sum = sum_of c.args.work.count }, c.walk.invariant.walk)

pub walk-smaller : goal.walk-smaller
walk-smaller c =
    let on : GoesOn c.args.book.now c.walk.pool c.walk.state c.walk.frames.items c.turn.new.pool c.in-On.next c.turn.new.frames.items =
    subst (IsTurn c.args.book.now c.walk.pool c.walk.state c.walk.frames.items c.turn.new.pool c.turn.new.frames.items) c.in-On.is c.in_ok-next.ensures.turn in
    (on (record { steps = c.args.work.cell.steps.items; sum = sum_of c.args.work.count }) c.walk.invariant.walk).1

pub returns-in-Done-clause-live : goal.returns-in-Done-clause-live
returns-in-Done-clause-live c =
    let done = subst (IsTurn c.args.book.now c.walk.pool c.walk.state c.walk.frames.items c.turn.new.pool c.turn.new.frames.items) c.in-Done.is c.in_ok-next.ensures.turn in
    let made = done (record { steps = c.args.work.cell.steps.items; sum = sum_of c.args.work.count }) c.walk.invariant.walk in
    c.in_ok-next.ensures.trees.live c.in-Done.id made.tree made.stands
