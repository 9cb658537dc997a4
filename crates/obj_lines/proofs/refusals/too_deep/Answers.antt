use Rattle.std.proofs.Common.{ℕ}
use Rattle.std.specs.Prelude.{codes}
use Rattle.spec_refusal.specs.declared.Refusal.TheVariants.{TooDeep}
use Rattle.obj_lines.specs.PageLines.{Refused}
use Rattle.obj_lines.proofs.RefusalShapes.{too_deep_form}
use Rattle.obj_lines.proofs.Shorts.{two_none, two_some}
use Rattle.obj_lines.proofs.refusals.too_deep.Goals as goal

pub returns-in_err-number : goal.returns-in_err-number
returns-in_err-number c = rw c.from_residual.ensures (two_none (λ (a : ℕ × ℕ). Refused a.0 (TooDeep a.1)) (codes "#refused @ E8 TooDeep #@") too_deep_form (λ a h. h) c.args.text.now c.in_err-number.ensures)

pub returns : goal.returns
returns c =
    let two = c.in_ok-number.ensures in
    two_some (λ (a : ℕ × ℕ). Refused a.0 (TooDeep a.1)) (codes "#refused @ E8 TooDeep #@") too_deep_form c.args.text.now c.in_ok-number.number c.in_ok-number.at two (two.first_short, two.second_short)
