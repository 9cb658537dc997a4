use Rattle.std.proofs.Common.{◌≡◌, ◌^◌, ap, ◌∙◌}
use Rattle.spec_space.specs.declared.Vector.{Vector}
use Rattle.spec_place.specs.declared.transform.Axes.{Axes}
use Rattle.spec_place.specs.Vectors.{IsWithin}
use Rattle.spec_place.specs.Maps.{turned_to, stretched, scaled_axes}
use Rattle.integer_laws.proofs.Computed.{arg}
use Rattle.ix_place.proofs.Sizes.{wider}
use Rattle.ix_place.proofs.Passed.{passed, passed_within}
use Rattle.ix_place.proofs.map.scaled_axes.Goals as goal

pub stretched-requires-clause-axis : goal.stretched-requires-clause-axis
stretched-requires-clause-axis c = c.requires.axes.x

pub stretched-requires-clause-scale : goal.stretched-requires-clause-scale
stretched-requires-clause-scale c = passed_within c.args.scales.now.x c.requires.scales.x tt tt

pub turned_to-requires-clause-side : goal.turned_to-requires-clause-side
turned_to-requires-clause-side c = wider c.args.side.now c.requires.side tt

pub turned_to-requires-clause-direction : goal.turned_to-requires-clause-direction
turned_to-requires-clause-direction c = c.requires.axes.y

pub stretched-requires-2-clause-axis : goal.stretched-requires-2-clause-axis
stretched-requires-2-clause-axis c = c.turned_to.ensures.within

pub stretched-requires-2-clause-scale : goal.stretched-requires-2-clause-scale
stretched-requires-2-clause-scale c = passed_within c.args.scales.now.y c.requires.scales.y tt tt

pub stretched-requires-3-clause-axis : goal.stretched-requires-3-clause-axis
stretched-requires-3-clause-axis c = c.requires.axes.z

pub stretched-requires-3-clause-scale : goal.stretched-requires-3-clause-scale
stretched-requires-3-clause-scale c = passed_within c.args.scales.now.z c.requires.scales.z tt tt

abbrev made : Vector → Vector → Vector → Axes
made x y z = record { x = x; y = y; z = z }

axes_are : (a : Axes) (side s t x y z : Vector) → IsWithin (10 ^ 15) s → t ≡ turned_to side a.y
    → x ≡ stretched a.x (passed s.x) → y ≡ stretched t (passed s.y) → z ≡ stretched a.z (passed s.z) → made x y z ≡ scaled_axes a side s
axes_are a side s t x y z h turned p q r =
    let along_x : x ≡ stretched a.x s.x = p ∙ ap (λ k. stretched a.x k) (arg s.x h.x tt).is in
    let along_y : y ≡ stretched (turned_to side a.y) s.y = q ∙ ap (λ k. stretched t k) (arg s.y h.y tt).is ∙ ap (λ v. stretched v s.y) turned in
    let along_z : z ≡ stretched a.z s.z = r ∙ ap (λ k. stretched a.z k) (arg s.z h.z tt).is in
    λ i. record { x = along_x i; y = along_y i; z = along_z i }

pub returns-clause-value : goal.returns-clause-value
returns-clause-value c =
    axes_are c.args.axes.now c.args.side.now c.args.scales.now c.turned_to.result c.stretched.result c.stretched-2.result c.stretched-3.result
    c.requires.scales c.turned_to.ensures.value c.stretched.ensures.value c.stretched-2.ensures.value c.stretched-3.ensures.value

pub returns-clause-small : goal.returns-clause-small
returns-clause-small c = record { x = c.stretched.ensures.within; y = c.stretched-2.ensures.within; z = c.stretched-3.ensures.within }
