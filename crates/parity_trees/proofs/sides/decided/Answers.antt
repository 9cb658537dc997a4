use Rattle.std.proofs.Common.{eqb→eq, subst, T}
use Rattle.parity_trees.proofs.Cells.{on_decided, front_decided, back_decided}
use Rattle.parity_trees.proofs.sides.decided.Goals as goal

pub returns-then-eq-clause-decided : goal.returns-then-eq-clause-decided
returns-then-eq-clause-decided c = on_decided c.args.book.now c.args.cell.now.steps.items c.args.taken c.args.side c.requires.taken (eqb→eq c.args.side.plane.k c.args.taken.plane.k (subst T c.if-eq.ensures tt))

pub returns-in-FrontOnly-clause-decided : goal.returns-in-FrontOnly-clause-decided
returns-in-FrontOnly-clause-decided c = front_decided c.args.book.now c.args.cell.now.steps.items c.args.side c.in-FrontOnly.ensures.answer

pub returns-in-BackOnly-clause-decided : goal.returns-in-BackOnly-clause-decided
returns-in-BackOnly-clause-decided c = back_decided c.args.book.now c.args.cell.now.steps.items c.args.side c.in-BackOnly.ensures.answer.1
