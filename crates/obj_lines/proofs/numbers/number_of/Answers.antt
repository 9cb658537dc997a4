use Rattle.std.proofs.Common.{sym, ap, ◌∙◌}
use Rattle.std.specs.Fmt.{decimal}
use Rattle.obj_lines.proofs.Digits.{some_is, differ}
use Rattle.obj_lines.proofs.numbers.number_of.Goals as goal

pub returns-in_err-number : goal.returns-in_err-number
returns-in_err-number c = rw c.from_residual.ensures (λ n h e. let s = c.in_err-number.ensures n h e in cc)

pub returns-else-eq : goal.returns-else-eq
returns-else-eq c = λ n h e.
    differ c.as_bytes.result.now c.args.digits.now (sym c.eq.ensures ∙ c.if-eq.false)
    (c.as_bytes.ensures.value ∙ c.format.ensures.text ∙ ap decimal (some_is c.in_ok-number.number n (c.in_ok-number.ensures n h e)) ∙ e)
