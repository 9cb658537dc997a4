use Rattle.std.proofs.Common.{◌≡◌, ℤ, pos, ◌*◌, ◌^◌, ◌≤◌, unsigned_abs, FitsSigned, to_z, of_z}
use mir.Syntax.{w128}
use Rattle.spec_space.specs.declared.Vector.{Vector}
use Rattle.spec_space.specs.Points.{minus, dot}
use Rattle.spec_place.specs.Vectors.{divided, IsWithin}
use Rattle.ix_place.proofs.Sizes.{wider, wider_number, dot_within, minus_within, divided_within, in_code, rest_first, rest_second}
use Rattle.ix_place.proofs.axes.rest.Goals as goal

-- how far the direction goes along the axis
along : (axis r : Vector) (d : ℤ) → FitsSigned w128 d → d ≡ dot r axis → IsWithin (10 ^ 9) axis → IsWithin (10 ^ 9) r → unsigned_abs (to_z w128 (of_z w128 d)) ≤ 3 * 10 ^ 18
along axis r d fits is h k = in_code d (dot r axis) fits is (wider_number (dot r axis) (dot_within r axis k h) tt)

difference_within : (u v m : Vector) → m ≡ minus u v → IsWithin (10 ^ 27) u → IsWithin (3 * 10 ^ 27) v → IsWithin (4 * 10 ^ 12 * 10 ^ 15) m
difference_within u v m is h k = rw is (wider (minus u v) (minus_within u v h k) tt)

pub times-part-requires-clause-number : goal.times-part-requires-clause-number
times-part-requires-clause-number c =
    wider_number (to_z w128 (of_z w128 c.dot.result)) (along c.args.axis.now c.args.r.now c.dot.result (record { sfits = c.dot.type_inv }) c.dot.ensures c.requires.axis c.requires.direction) tt

pub minus-requires-clause-first : goal.minus-requires-clause-first
minus-requires-clause-first c = wider c.times.result (rest_first c.args.r.now c.times.result c.times.ensures c.requires.direction) tt

pub minus-requires-clause-second : goal.minus-requires-clause-second
minus-requires-clause-second c =
    wider c.times-part.result (rest_second c.args.axis.now c.times-part.result (to_z w128 (of_z w128 c.dot.result)) c.times-part.ensures
    (along c.args.axis.now c.args.r.now c.dot.result (record { sfits = c.dot.type_inv }) c.dot.ensures c.requires.axis c.requires.direction) c.requires.axis) tt

pub divided-requires-clause-vector : goal.divided-requires-clause-vector
divided-requires-clause-vector c =
    wider c.minus.result (difference_within c.times.result c.times-part.result c.minus.result c.minus.ensures
    (rest_first c.args.r.now c.times.result c.times.ensures c.requires.direction)
    (rest_second c.args.axis.now c.times-part.result (to_z w128 (of_z w128 c.dot.result)) c.times-part.ensures
    (along c.args.axis.now c.args.r.now c.dot.result (record { sfits = c.dot.type_inv }) c.dot.ensures c.requires.axis c.requires.direction) c.requires.axis)) tt

pub returns-clause-within : goal.returns-clause-within
returns-clause-within c =
    rw c.divided.ensures (wider (divided c.minus.result (pos (10 ^ 15))) (divided_within c.minus.result (10 ^ 15) {n = 4 * 10 ^ 12} tt
    (difference_within c.times.result c.times-part.result c.minus.result c.minus.ensures
    (rest_first c.args.r.now c.times.result c.times.ensures c.requires.direction)
    (rest_second c.args.axis.now c.times-part.result (to_z w128 (of_z w128 c.dot.result)) c.times-part.ensures
    (along c.args.axis.now c.args.r.now c.dot.result (record { sfits = c.dot.type_inv }) c.dot.ensures c.requires.axis c.requires.direction) c.requires.axis))) tt)
