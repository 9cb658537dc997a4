use Rattle.std.proofs.Common.{◌^◌}
use Rattle.ifc_curves.proofs.points.loop_of.Goals as goal

pub returns-clause-within : goal.returns-clause-within
returns-clause-within c = c.of_curve.ensures.within (10 ^ 16) c.requires
