use Rattle.std.proofs.Common.{ℕ}
use Rattle.std.specs.Prelude.{codes}
use Rattle.spec_refusal.specs.declared.Refusal.TheVariants.{BadAttribute}
use Rattle.obj_lines.specs.PageLines.{Refused}
use Rattle.obj_lines.proofs.RefusalShapes.{bad_attribute_form}
use Rattle.obj_lines.proofs.Shorts.{three_none, three_some}
use Rattle.obj_lines.proofs.refusals.bad_attribute.Goals as goal

pub returns-in_err-number : goal.returns-in_err-number
returns-in_err-number c = rw c.from_residual.ensures (three_none (λ (a : ℕ × ℕ × ℕ). Refused a.0 (BadAttribute a.1 a.2)) (codes "#refused @ E3 BadAttribute #@ @") bad_attribute_form (λ a h. (h.0, h.1.0, h.1.1)) c.args.text.now c.in_err-number.ensures)

pub returns : goal.returns
returns c =
    let three = c.in_ok-number.ensures in
    three_some (λ (a : ℕ × ℕ × ℕ). Refused a.0 (BadAttribute a.1 a.2)) (codes "#refused @ E3 BadAttribute #@ @") bad_attribute_form c.args.text.now c.in_ok-number.number c.in_ok-number.at c.in_ok-number.position three (three.first_short, (three.second_short, three.third_short))
