use Rattle.obj_lines.proofs.Groups.{volume_reading}
use Rattle.obj_lines.proofs.kinds.volume.Goals as goal

pub returns-in-None : goal.returns-in-None
returns-in-None c = volume_reading c.args.text.now c.some_volume.result c.in-None.ensures c.some_volume.ensures
