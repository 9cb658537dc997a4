use Rattle.obj_lines.proofs.Lists.{other_sign}
use Rattle.obj_lines.proofs.indices.indices.Goals as goal

pub returns-in-None : goal.returns-in-None
returns-in-None c = other_sign c.args.text.now c.in-None.ensures
