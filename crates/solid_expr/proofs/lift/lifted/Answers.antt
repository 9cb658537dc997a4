use Rattle.solid_expr.proofs.Outlines.{lifted_outline}
use Rattle.solid_expr.proofs.lift.lifted.Goals as goal

pub returns-clause-outline : goal.returns-clause-outline
returns-clause-outline c = λ h. lifted_outline c.upwards.result c.args.loops c.moved_loops.result c.moved_loops.ensures c.upwards.ensures.within h
