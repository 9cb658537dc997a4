use Rattle.std.proofs.Common.{◌≡◌, false, pos, sym, ◌∙◌}
use Rattle.spec_space.specs.declared.Vector.{Vector}
use Rattle.spec_place.specs.Vectors.{divided, is_zero}
use Rattle.spec_place.specs.Directions.{unit}
use Rattle.spec_place.specs.Maps.{turned_to}
use Rattle.ix_place.proofs.Normals.{normal_left}
use Rattle.ix_place.proofs.half.unit_normal.Goals as goal

left : (side raw n t : Vector) → t ≡ turned_to side n → n ≡ unit raw → is_zero raw ≡ false → is_zero (divided t (pos 100)) ≡ false
left side raw n t turned is some_ = rw (turned, is) (normal_left side raw some_)

pub returns-clause-some : goal.returns-clause-some
returns-clause-some c =
    left c.args.side.now c.args.raw.now c.unit-2.inside.v c.turned_to.result c.turned_to.ensures.value (c.unit-2.view_is ∙ c.unit.ensures) (sym c.is_within.ensures ∙ c.if-is_within.false)
