use Rattle.obj_lines.proofs.Groups.{head_reading}
use Rattle.obj_lines.proofs.kinds.head.Goals as goal

pub returns : goal.returns
returns c =
    head_reading c.args.text.now c.end.result c.in_default.ensures c.in_default-frame_line.ensures c.in_default-skipped.ensures c.in_default-version.ensures c.in_default-grid_line.ensures c.end.ensures
