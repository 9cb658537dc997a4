use Rattle.std.proofs.Common.{[], None}
use Rattle.std.specs.Prelude.{codes}
use Rattle.obj_lines.specs.PageLines.{Volume}
use Rattle.obj_lines.proofs.Forms.{form_none, form_some, list_none}
use Rattle.obj_lines.proofs.Shapes.{no_volume_form}
use Rattle.obj_lines.proofs.kinds.no_volume.Goals as goal

pub returns-in_err-scan : goal.returns-in_err-scan
returns-in_err-scan c = rw c.from_residual.ensures (form_none (λ (a : Unit {0}). Volume None) (codes "#vol6 none") 0 (λ (a : Unit {0}). []) no_volume_form c.args.text.now c.in_err-scan.ensures)

pub returns : goal.returns
returns c = form_some (λ (a : Unit {0}). Volume None) (codes "#vol6 none") 0 (λ (a : Unit {0}). []) no_volume_form c.args.text.now c.in_ok-scan.field-0 c.in_ok-scan.ensures tt tt (list_none c.in_ok-scan.field-0 c.in_ok-scan.ensures.words.count_is)
