use Rattle.obj_lines.proofs.Groups.{refused_reading}
use Rattle.obj_lines.proofs.refusals.refused.Goals as goal

pub returns-in-None : goal.returns-in-None
returns-in-None c = refused_reading c.args.text.now c.late.result c.in-None.ensures c.late.ensures
