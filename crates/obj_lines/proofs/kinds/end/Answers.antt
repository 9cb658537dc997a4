use Rattle.std.proofs.Common.{[]}
use Rattle.std.specs.Prelude.{codes}
use Rattle.obj_lines.specs.PageLines.{End}
use Rattle.obj_lines.proofs.Forms.{form_none, form_some, list_none}
use Rattle.obj_lines.proofs.Shapes.{end_form}
use Rattle.obj_lines.proofs.kinds.end.Goals as goal

pub returns-in_err-scan : goal.returns-in_err-scan
returns-in_err-scan c = rw c.from_residual.ensures (form_none (λ (a : Unit {0}). End) (codes "# end") 0 (λ (a : Unit {0}). []) end_form c.args.text.now c.in_err-scan.ensures)

pub returns : goal.returns
returns c = form_some (λ (a : Unit {0}). End) (codes "# end") 0 (λ (a : Unit {0}). []) end_form c.args.text.now c.in_ok-scan.field-0 c.in_ok-scan.ensures tt tt (list_none c.in_ok-scan.field-0 c.in_ok-scan.ensures.words.count_is)
