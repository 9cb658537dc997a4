use Rattle.integer_laws.proofs.Computed.{arg, again}
use Rattle.plane_core.proofs.Sizes.{after, det_is, small}
use Rattle.plane_core.proofs.determinants.weight_part.Goals as goal

pub returns : goal.returns
returns c =
    let found = again (after c.det.ensures.value (det_is (arg c.args.p.now.a c.args.p.now.a_small tt) (arg c.args.p.now.b c.args.p.now.b_small tt) (arg c.args.p.now.c c.args.p.now.c_small tt) (arg c.args.q.now.a c.args.q.now.a_small tt) (arg c.args.q.now.b c.args.q.now.b_small tt) (arg c.args.q.now.c c.args.q.now.c_small tt) (arg c.args.r.now.a c.args.r.now.a_small tt) (arg c.args.r.now.b c.args.r.now.b_small tt) (arg c.args.r.now.c c.args.r.now.c_small tt))) tt in
    record { value = found.is; size = small found }
