use Rattle.std.proofs.Common.{pos, ◌^◌}
use Rattle.spec_place.specs.Vectors.{divided}
use Rattle.ix_place.proofs.Sizes.{wider, divided_within}
use Rattle.ix_place.proofs.matrix.composed_offset.Goals as goal

pub plus-requires-clause-second : goal.plus-requires-clause-second
plus-requires-clause-second c =
    rw c.divided.ensures (wider (divided c.turned.result (pos (10 ^ 9))) (divided_within c.turned.result (10 ^ 9) {n = 2 ^ 100} tt (wider c.turned.result c.turned.ensures.within tt)) tt)
