use Rattle.plane_core.specs.Views.{point_of}
use Rattle.plane_core.proofs.Meets.{multiple_point}
use Rattle.plane_core.proofs.points.meet.Goals as goal

pub returns-in-Some-clause-common : goal.returns-in-Some-clause-common
returns-in-Some-clause-common c =
    multiple_point c.args.p.now c.args.q.now c.args.r.now _ (point_of c.reduced.result) c.reduced.ensures.same c.in-Some.ensures.common
