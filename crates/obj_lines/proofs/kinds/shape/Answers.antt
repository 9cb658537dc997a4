use Rattle.obj_lines.proofs.Groups.{shape_reading}
use Rattle.obj_lines.proofs.kinds.shape.Goals as goal

pub returns : goal.returns
returns c = shape_reading c.args.text.now c.volume.result c.in_default.ensures c.in_default-printed.ensures c.in_default-edge.ensures c.in_default-face.ensures c.volume.ensures
