use Rattle.std.proofs.Common.{◌≡◌, ◌∙◌, map, ap}
use Rattle.spec_solid.specs.Extrusions.{plus}
use Rattle.solid_expr.proofs.Prisms.{pushed_step}
use Rattle.solid_expr.proofs.prism.moved_loops.Goals as goal

pub loop-l-preserved : goal.loop-l-preserved
loop-l-preserved c =
    pushed_step (map (λ u. plus u c.args.sweep.now)) c.args.loops.now c.loop-l.l-index c.l-item.result c.loop-l.moved c.push.new.self c.in_ok-moved_loop.field-0 _ c.loop-l-test.true
    c.in_ok-push.ensures.ok
    (c.in_ok-moved_loop.ensures ∙ ap (map (λ u. plus u c.args.sweep.now)) (c.points.ensures ∙ c.l-item.is))
    c.loop-l.invariant
