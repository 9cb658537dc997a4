use Rattle.spec_place.specs.Transforms.{first_column, second_column, third_column}
use Rattle.ix_place.proofs.Sizes.{wider}
use Rattle.ix_place.proofs.Bounded.{first_column_within, second_column_within, third_column_within}
use Rattle.ix_place.proofs.half.plane_normal.Goals as goal

pub direction-requires : goal.direction-requires
direction-requires c = rw c.first_column.ensures (wider (first_column c.args.m.now) (first_column_within c.args.m.now c.requires) tt)

pub direction-requires-2 : goal.direction-requires-2
direction-requires-2 c = rw c.second_column.ensures (wider (second_column c.args.m.now) (second_column_within c.args.m.now c.requires) tt)

pub raw_normal-requires-clause-first : goal.raw_normal-requires-clause-first
raw_normal-requires-clause-first c = c.branch.invariant

pub raw_normal-requires-clause-second : goal.raw_normal-requires-clause-second
raw_normal-requires-clause-second c = c.branch-2.invariant

pub unit_normal-requires-clause-raw : goal.unit_normal-requires-clause-raw
unit_normal-requires-clause-raw c = c.raw_normal.ensures.within

pub unit_normal-requires-clause-side : goal.unit_normal-requires-clause-side
unit_normal-requires-clause-side c = rw c.third_column.ensures (third_column_within c.args.m.now c.requires)

pub returns-clause-within : goal.returns-clause-within
returns-clause-within c = c.unit_normal.ensures.within

pub returns-clause-some : goal.returns-clause-some
returns-clause-some c = c.unit_normal.ensures.some
