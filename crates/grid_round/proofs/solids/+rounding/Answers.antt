use Rattle.std.proofs.Common.{◌∙◌, ap, sym}
use Rattle.spec_grid.specs.Rounded.{round_shape}
use Rattle.solid_expr.specs.Views.{shape_of}
use Rattle.grid_round.proofs.Walks.{part_more, all_parts}
use Rattle.grid_round.proofs.solids.+rounding.Goals as goal

pub round_parts-loop-part-preserved : goal.round_parts-loop-part-preserved
round_parts-loop-part-preserved t c =
    part_more c.args.step c.args.parts.now c.loop-part.part-index c.part-item.result c.loop-part.rounded c.push.new.self c.in_ok-round_shape.field-0 c.loop-part-test.true
    (ap (λ p. round_shape c.args.step (shape_of p)) (sym c.part-item.is) ∙ c.in_ok-round_shape.ensures) c.in_ok-push.ensures.ok c.loop-part.invariant

pub round_parts-returns : goal.round_parts-returns
round_parts-returns t c = all_parts c.args.step c.args.parts.now c.loop-part.part-index c.loop-part.rounded c.loop-part-test.false c.loop-part.invariant
