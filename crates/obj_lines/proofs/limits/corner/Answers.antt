use Rattle.std.proofs.Common.{to_z, of_z, refl, sym}
use Rattle.std.proofs.lemmas.Int.{to_z-of_z}
use Rattle.std.proofs.lemmas.Bool.{true≢false}
use mir.Syntax.{w128}
use Rattle.spec_space.specs.declared.Point.{Point}
use Rattle.obj_lines.proofs.Reduced.{point_coprime, coprime_same, point_same, exact_corner}
use Rattle.obj_lines.proofs.limits.corner.Goals as goal

pub returns-then-not-are_coprime : goal.returns-then-not-are_coprime
returns-then-not-are_coprime c = λ exact.
    let x = c.args.x in
    let y = c.args.y in
    let z = c.args.z in
    let w = c.args.w in
    let ex = to_z-of_z w128 x c.ranges.x in
    let ey = to_z-of_z w128 y c.ranges.y in
    let ez = to_z-of_z w128 z c.ranges.z in
    let ew = to_z-of_z w128 w c.ranges.w in
    let p : Point = record { x = x; y = y; z = z; w = w } in
    true≢false (sym (c.if-not-are_coprime.ensures.1 (coprime_same x y z w (to_z w128 (of_z w128 x)) (to_z w128 (of_z w128 y)) (to_z w128 (of_z w128 z)) (to_z w128 (of_z w128 w)) ex ey ez ew (point_coprime p exact.reduced))))

pub invariant_of-result : goal.invariant_of-result
invariant_of-result c =
    let sizes = c.if-not-has_corner_sizes.ensures.0 refl in
    record { x_small = sizes.size.x; y_small = sizes.size.y; z_small = sizes.size.z; w_small = sizes.weight; positive = sizes.positive; coprime = c.if-not-are_coprime.ensures.0 refl }

pub returns : goal.returns
returns c =
    let x = c.args.x in
    let y = c.args.y in
    let z = c.args.z in
    let w = c.args.w in
    let q : Point = record { x = to_z w128 (of_z w128 x); y = to_z w128 (of_z w128 y); z = to_z w128 (of_z w128 z); w = to_z w128 (of_z w128 w) } in (
      exact_corner q (c.if-not-has_corner_sizes.ensures.0 refl) (c.if-not-are_coprime.ensures.0 refl),
      point_same x y z w (to_z w128 (of_z w128 x)) (to_z w128 (of_z w128 y)) (to_z w128 (of_z w128 z)) (to_z w128 (of_z w128 w))
          (to_z-of_z w128 x c.ranges.x) (to_z-of_z w128 y c.ranges.y) (to_z-of_z w128 z c.ranges.z) (to_z-of_z w128 w c.ranges.w),
    )
