use Rattle.std.proofs.Common.{◌≡◌, ◌++◌, ◌∙◌, ap, refl}
use Rattle.solid_expr.specs.Sides.{loop_sides}
use Rattle.solid_expr.proofs.Prisms.{all_sides_step, all_sides_end}
use Rattle.solid_expr.proofs.prism.push_all_sides.Goals as goal

pub loop-l-init : goal.loop-l-init
loop-l-init c = refl

pub loop-l-preserved : goal.loop-l-preserved
loop-l-preserved c =
    all_sides_step c.args.at c.args.sweep.now c.args.loops.now c.loop-l.l-index c.l-item.result c.loop-l.faces.items c.push_sides.new.faces.items _ c.loop-l-test.true
    (c.in_ok-push_sides.ensures ∙ ap (λ l. c.loop-l.faces.items ++ loop_sides c.args.at c.args.sweep.now l) (c.points.ensures ∙ c.l-item.is))
    c.loop-l.invariant

pub returns : goal.returns
returns c = all_sides_end c.args.at c.args.sweep.now c.args.loops.now c.loop-l.l-index c.loop-l.faces.items _ c.loop-l-test.false c.loop-l.invariant
