use Rattle.std.proofs.Common.{◌≡◌, true, false, sym, ◌∙◌}
use Rattle.spec_space.specs.declared.Vector.{Vector}
use Rattle.spec_place.specs.Vectors.{is_zero, along_x, along_y}
use Rattle.spec_place.specs.Axes.{rest, vanishes}
use Rattle.ix_place.proofs.Parallel.{second_left}
use Rattle.ix_place.proofs.axes.reference_rest.Goals as goal

left_of_y : (axis u v : Vector) → u ≡ rest axis along_x → v ≡ rest axis along_y → vanishes u ≡ true → is_zero v ≡ false
left_of_y axis u v first second h = rw second (second_left axis (rw first at h))

pub returns-then-vanishes-2-clause-some : goal.returns-then-vanishes-2-clause-some
returns-then-vanishes-2-clause-some c =
    left_of_y c.args.axis.now c.rest-left-2.result c.rest.result c.rest-left-2.ensures.value c.rest.ensures.value (sym c.vanishes-2.ensures.value ∙ c.if-vanishes-2.true)
