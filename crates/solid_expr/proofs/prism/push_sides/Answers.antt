use Rattle.std.proofs.Common.{ℕ, ◌≡◌, ◌≤◌, ◌++◌, ◌∙◌, ◌+◌, ap, length, drop, get_or, arith}
use Rattle.spec_place.specs.Vectors.{origin}
use Rattle.solid_expr.specs.Sides.{loop_sides}
use Rattle.solid_expr.proofs.Prisms.{sides_from, sides_whole, sides_step, sides_end}
use Rattle.solid_expr.proofs.prism.push_sides.Goals as goal

pub loop-k-init : goal.loop-k-init
loop-k-init c =
    let some_ : 1 ≤ length c.args.points.now = at_least_one (length c.args.points.now) c.requires.points.long in
    ap (λ fs. c.args.faces.now.items ++ fs) (sides_whole c.args.at c.args.sweep.now c.args.points.now origin some_)
  where
    at_least_one : (n : ℕ) → 3 ≤ n → 1 ≤ n
    at_least_one n h = omega arith

pub loop-k-preserved : goal.loop-k-preserved
loop-k-preserved c =
    ap (λ fs. fs ++ sides_from c.args.at c.args.sweep.now (get_or c.args.points.now 0 origin) (drop (c.loop-k.k + 1) c.args.points.now)) c.in_ok-push.ensures.items
    ∙ sides_step c.args.at c.args.sweep.now (get_or c.args.points.now 0 origin) c.args.points.now c.loop-k.k origin c.corner_after-next.result c.loop-k.faces.items c.in_ok-side_face.field-0 _
    c.loop-k-test.true c.corner_after-next.ensures.value c.in_ok-side_face.ensures c.loop-k.invariant

pub returns : goal.returns
returns c = sides_end c.args.at c.args.sweep.now (get_or c.args.points.now 0 origin) c.args.points.now c.loop-k.k c.loop-k.faces.items _ c.loop-k-test.false c.loop-k.invariant
