use Rattle.std.proofs.Common.{◌+ℤ◌, ◌∙◌, ap, rules, FitsSigned, unsigned_abs}
use mir.Syntax.{w128}
use Rattle.exact_mesh.proofs.Fans.{fan_step, added, added_size}
use Rattle.exact_mesh.proofs.volume.add_fan.Goals as goal

pub loop-to-preserved : goal.loop-to-preserved
loop-to-preserved c =
    let fits : FitsSigned w128 c.tetrahedron.result = record { sfits = c.tetrahedron.type_inv } in
    let one = added c.loop-to.sum c.tetrahedron.result c.add.new.self fits c.add.ensures in
    record {
      within = search rules;
      size = added_size c.loop-to.sum c.tetrahedron.result c.add.new.self (unsigned_abs c.args.sum.now) c.loop-to.to-index fits one c.loop-to.invariant.size;
      all = fan_step c.args.corners.now c.args.first c.loop-to.from c.args.rest.now c.loop-to.to-index c.loop-to.sum c.add.new.self _ c.loop-to-test.true
          (one ∙ ap (λ t. c.loop-to.sum +ℤ t) c.tetrahedron.ensures) c.loop-to.invariant.all;
    }
