use Rattle.obj_lines.proofs.Groups.{late_reading}
use Rattle.obj_lines.proofs.refusals.late.Goals as goal

pub returns : goal.returns
returns c =
    late_reading c.args.text.now c.unbounded.result c.in_default.ensures c.in_default-element_too_large.ensures c.in_default-corner_too_far.ensures c.in_default-open_shell.ensures
    c.in_default-plane_too_large.ensures c.unbounded.ensures
