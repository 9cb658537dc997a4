use Rattle.std.proofs.Common.{sym, subst}
use Rattle.parity_trees.specs.declared.work.State.TheVariants.{Down}
use Rattle.parity_trees.specs.Works.{GoesOn}
use Rattle.parity_trees.proofs.Cells.{front_only_on, back_only_on}
use Rattle.parity_trees.proofs.Steps.{one_side, both_sides}
use Rattle.parity_trees.proofs.step.divide.Goals as goal

pub part-requires-clause-taken : goal.part-requires-clause-taken
part-requires-clause-taken c = front_only_on c.args.book.now c.args.work.cell.steps.items c.args.plane c.in-FrontOnly.ensures.answer

pub part-requires-in-BackOnly-clause-taken : goal.part-requires-in-BackOnly-clause-taken
part-requires-in-BackOnly-clause-taken c = back_only_on c.args.book.now c.args.work.cell.steps.items c.args.plane c.in-BackOnly.ensures.answer.1

pub returns-in-FrontOnly : goal.returns-in-FrontOnly
returns-in-FrontOnly c =
    let given = c.requires.given in
    let part = c.in_ok-part-in-FrontOnly in
    record { walk = λ pool. one_side c.args.book.now pool c.args.work.cell c.args.work.count c.args.frames.now.items _ part.field-0 part.ensures.part given.0 given.1 }

pub returns-in-BackOnly : goal.returns-in-BackOnly
returns-in-BackOnly c =
    let given = c.requires.given in
    let part = c.in_ok-part-in-BackOnly in
    record { walk = λ pool. one_side c.args.book.now pool c.args.work.cell c.args.work.count c.args.frames.now.items _ part.field-0 part.ensures.part given.0 given.1 }

pub returns : goal.returns
returns c =
    let planes = c.args.book.now in
    let parts = c.in_ok-before-in-Crosses in
    let first = c.in_ok-first-in-Crosses in
    let second = c.in_ok-work-in-Crosses in
    let given = c.requires.given in
    record {
      walk = λ pool. subst (λ fs. GoesOn planes pool (Down c.args.work) c.args.frames.now.items pool (Down first.first) fs) (sym c.in_ok-push-in-Crosses.ensures.items)
          (both_sides planes pool c.args.work.cell c.args.work.count c.args.frames.now.items c.args.plane parts.before parts.behind first.first second.work
          parts.ensures.front parts.ensures.back first.ensures.part second.ensures.part given.0 given.1);
    }
