use Rattle.obj_lines.proofs.Groups.{whole_reading}
use Rattle.obj_lines.proofs.line.read_line.Goals as goal

pub returns : goal.returns
returns c = whole_reading c.args.text.now c.indices.result c.in_default.ensures c.in_default-head.ensures c.in_default-refused.ensures c.indices.ensures
