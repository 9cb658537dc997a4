use Rattle.std.proofs.Common.{◌≡◌, ◌∙◌, ap, refl}
use Rattle.spec_shape.specs.Shapes.{is_bounded}
use Rattle.solid_expr.specs.Views.{shape_of}
use Rattle.solid_expr.proofs.Counts.{are_bounded, bounded_more, bounded_stop, bounded_end}
use Rattle.solid_expr.proofs.count.+bounded.Goals as goal

pub are_bounded-loop-solid-init : goal.are_bounded-loop-solid-init
are_bounded-loop-solid-init t c = refl

pub are_bounded-returns-then-not-is_bounded : goal.are_bounded-returns-then-not-is_bounded
are_bounded-returns-then-not-is_bounded t c =
    bounded_stop c.args.solids.now c.loop-solid.solid-index c.solid-item.result (are_bounded c.args.solids.now) c.is_bounded.result c.loop-solid-test.true
    (c.is_bounded.ensures ∙ ap (λ s. is_bounded (shape_of s)) c.solid-item.is) c.if-not-is_bounded.true c.loop-solid.invariant

pub are_bounded-loop-solid-preserved : goal.are_bounded-loop-solid-preserved
are_bounded-loop-solid-preserved t c =
    bounded_more c.args.solids.now c.loop-solid.solid-index c.solid-item.result (are_bounded c.args.solids.now) c.is_bounded.result c.loop-solid-test.true
    (c.is_bounded.ensures ∙ ap (λ s. is_bounded (shape_of s)) c.solid-item.is) c.if-not-is_bounded.false c.loop-solid.invariant

pub are_bounded-returns : goal.are_bounded-returns
are_bounded-returns t c = bounded_end c.args.solids.now c.loop-solid.solid-index (are_bounded c.args.solids.now) c.loop-solid-test.false c.loop-solid.invariant
