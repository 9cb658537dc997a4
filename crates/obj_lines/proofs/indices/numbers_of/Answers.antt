use Rattle.std.proofs.Common.{sym, subst}
use Rattle.obj_lines.proofs.Scans.{empty_is, empty_is_not}
use Rattle.obj_lines.proofs.Lists.{IsSplit, split_more, split_none, split_over}
use Rattle.obj_lines.proofs.indices.numbers_of.Goals as goal

pub returns-in-None : goal.returns-in-None
returns-in-None c =
    let l = c.loop-rest in
    split_none c.args.text.now l.numbers.items l.rest.now l.invariant (empty_is_not l.rest.now c.loop-rest-test.ensures) c.in-None.ensures

pub loop-rest-preserved : goal.loop-rest-preserved
loop-rest-preserved c =
    let l = c.loop-rest in
    subst (λ ns. IsSplit c.args.text.now ns c.in-Some.more.now) (sym c.in_ok-push-in-Some.ensures.items)
    (split_more c.args.text.now l.numbers.items l.rest.now l.invariant c.in-Some.number c.in-Some.more.now c.in-Some.ensures)

pub returns : goal.returns
returns c =
    let l = c.loop-rest in
    split_over c.args.text.now l.numbers.items l.rest.now l.invariant (empty_is l.rest.now c.loop-rest-test.ensures)
