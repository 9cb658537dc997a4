use Rattle.std.proofs.Common.{◌≡◌, ℤ, pos, ◌*◌, ◌^◌, ◌≤◌, unsigned_abs, FitsSigned, to_z, of_z, refl, ap, ◌∙◌}
use mir.Syntax.{w128}
use Rattle.spec_space.specs.declared.Vector.{Vector}
use Rattle.spec_place.specs.Vectors.{times, divided, IsWithin}
use Rattle.integer_laws.proofs.Computed.{arg}
use Rattle.ix_place.proofs.Sizes.{wider, times_within, divided_within, in_code}
use Rattle.ix_place.proofs.Passed.{passed_within}
use Rattle.ix_place.proofs.map.stretched.Goals as goal

product_within : (axis t : Vector) (scale : ℤ) → FitsSigned w128 scale → t ≡ times (to_z w128 (of_z w128 scale)) axis → unsigned_abs scale ≤ 10 ^ 15 → IsWithin (10 ^ 9) axis → IsWithin (10 ^ 12 * 10 ^ 12) t
product_within axis t scale fits is h k = rw is (wider (times (to_z w128 (of_z w128 scale)) axis) (times_within (to_z w128 (of_z w128 scale)) axis (in_code scale scale fits refl h) k) tt)

pub returns-clause-within : goal.returns-clause-within
returns-clause-within c =
    rw c.divided.ensures (divided_within c.times.result (10 ^ 12) {n = 10 ^ 12} tt (product_within c.args.axis.now c.times.result c.args.scale c.ranges.scale c.times.ensures c.requires.scale c.requires.axis))

pub times-requires-clause-number : goal.times-requires-clause-number
times-requires-clause-number c = passed_within c.args.scale c.requires.scale tt tt

pub times-requires-clause-vector : goal.times-requires-clause-vector
times-requires-clause-vector c = wider c.args.axis.now c.requires.axis tt

pub divided-requires-clause-vector : goal.divided-requires-clause-vector
divided-requires-clause-vector c =
    wider c.times.result (product_within c.args.axis.now c.times.result c.args.scale c.ranges.scale c.times.ensures c.requires.scale c.requires.axis) tt

pub returns-clause-value : goal.returns-clause-value
returns-clause-value c =
    c.divided.ensures ∙ ap (λ t. divided t (pos (10 ^ 12))) (c.times.ensures ∙ ap (λ k. times k c.args.axis.now) (arg c.args.scale c.requires.scale tt).is)
