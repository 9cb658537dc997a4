use Rattle.obj_lines.proofs.Shorts.{no_two, no_first_of_two, no_second_of_two, two_is}
use Rattle.obj_lines.proofs.refusals.two.Goals as goal

pub returns-in_err-found : goal.returns-in_err-found
returns-in_err-found c = rw c.from_residual.ensures (no_two c.args.template.now c.args.text.now c.in_err-found.ensures)

pub returns-in_err-first : goal.returns-in_err-first
returns-in_err-first c = rw c.from_residual-in_err-first.ensures (no_first_of_two c.args.template.now c.args.text.now c.in_ok-found.found c.in_ok-found.ensures c.in_err-first.ensures)

pub returns-in_err-second : goal.returns-in_err-second
returns-in_err-second c = rw c.from_residual-in_err-second.ensures (no_second_of_two c.args.template.now c.args.text.now c.in_ok-found.found c.in_ok-found.ensures c.in_err-second.ensures)

pub returns : goal.returns
returns c = two_is c.args.template.now c.args.text.now c.in_ok-found.found c.in_ok-found.ensures c.in_ok-first.first c.in_ok-second.second c.in_ok-first.ensures.0 c.in_ok-second.ensures.0 c.in_ok-first.ensures.1 c.in_ok-second.ensures.1
