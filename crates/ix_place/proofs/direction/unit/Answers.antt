use Rattle.std.proofs.Common.{◌≡◌, ℤ, ◌^◌, FitsSigned, leb→le, ap, ap₂, ◌∙◌}
use mir.Syntax.{w128}
use Rattle.spec_space.specs.declared.Vector.{Vector}
use Rattle.spec_place.specs.Vectors.{each, times, divided, one, clamped}
use Rattle.spec_place.specs.Directions.{magnitude, unit}
use Rattle.ix_place.proofs.Sizes.{wider, times_within}
use Rattle.ix_place.proofs.Passed.{passed, passed_is, passed_positive, passed_at_most}
use Rattle.ix_place.proofs.direction.unit.Goals as goal

pub times-requires-clause-number : goal.times-requires-clause-number
times-requires-clause-number c = leb→le (10 ^ 9) (2 ^ 62) tt

pub times-requires-clause-vector : goal.times-requires-clause-vector
times-requires-clause-vector c = wider c.args.v.now c.requires.small tt

pub magnitude-requires-clause-small : goal.magnitude-requires-clause-small
magnitude-requires-clause-small c = c.requires.small

pub magnitude-requires-clause-some : goal.magnitude-requires-clause-some
magnitude-requires-clause-some c = c.requires.some

pub divided-requires-clause-vector : goal.divided-requires-clause-vector
divided-requires-clause-vector c =
    rw c.times.ensures (wider (times one c.args.v.now) (times_within one c.args.v.now {m = 10 ^ 9} (leb→le (10 ^ 9) (10 ^ 9) tt) c.requires.small) tt)

pub divided-requires-clause-positive : goal.divided-requires-clause-positive
divided-requires-clause-positive c = passed_positive c.magnitude.result (record { sfits = c.magnitude.type_inv }) c.magnitude.ensures.positive

pub divided-requires-clause-small : goal.divided-requires-clause-small
divided-requires-clause-small c = passed_at_most c.magnitude.result _ (record { sfits = c.magnitude.type_inv }) c.magnitude.ensures.small

pub invariant_of-result : goal.invariant_of-result
invariant_of-result c = c.clamped.ensures.within

unit_is : (v t w u : Vector) (m : ℤ) → FitsSigned w128 m → t ≡ times one v → m ≡ magnitude v → w ≡ divided t (passed m) → u ≡ each clamped w → u ≡ unit v
unit_is v t w u m fits p q r s = s ∙ ap (λ x. each clamped x) (r ∙ ap₂ (λ x d. divided x d) p (passed_is m (magnitude v) fits q))

pub returns : goal.returns
returns c =
    unit_is c.args.v.now c.times.result c.divided.result c.clamped.result c.magnitude.result (record { sfits = c.magnitude.type_inv })
    c.times.ensures c.magnitude.ensures.value c.divided.ensures c.clamped.ensures.value
