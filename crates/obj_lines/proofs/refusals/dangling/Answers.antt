use Rattle.std.proofs.Common.{ℕ}
use Rattle.std.specs.Prelude.{codes}
use Rattle.spec_refusal.specs.declared.Refusal.TheVariants.{Dangling}
use Rattle.obj_lines.specs.PageLines.{Refused}
use Rattle.obj_lines.proofs.RefusalShapes.{dangling_form}
use Rattle.obj_lines.proofs.Shorts.{three_none, three_some}
use Rattle.obj_lines.proofs.refusals.dangling.Goals as goal

pub returns-in_err-element : goal.returns-in_err-element
returns-in_err-element c = rw c.from_residual.ensures (three_none (λ (a : ℕ × ℕ × ℕ). Refused a.0 (Dangling a.1 a.2)) (codes "#refused @ E4 Dangling #@ @") dangling_form (λ a h. (h.0, h.1.0, h.1.1)) c.args.text.now c.in_err-element.ensures)

pub returns : goal.returns
returns c =
    let three = c.in_ok-element.ensures in
    three_some (λ (a : ℕ × ℕ × ℕ). Refused a.0 (Dangling a.1 a.2)) (codes "#refused @ E4 Dangling #@ @") dangling_form c.args.text.now c.in_ok-element.element c.in_ok-element.at c.in_ok-element.number three (three.first_short, (three.second_short, three.third_short))
