use Rattle.std.proofs.Common.{◌≡◌, pos, ◌*◌, ◌^◌}
use Rattle.spec_space.specs.declared.Vector.{Vector}
use Rattle.spec_space.specs.Points.{cross}
use Rattle.spec_place.specs.Vectors.{divided, IsWithin}
use Rattle.ix_place.proofs.Sizes.{wider, cross_within, divided_within}
use Rattle.ix_place.proofs.half.raw_normal.Goals as goal

product_within : (u v w : Vector) → w ≡ cross u v → IsWithin (10 ^ 9) u → IsWithin (10 ^ 9) v → IsWithin (2 * 10 ^ 12 * 10 ^ 6) w
product_within u v w is h k = rw is (wider (cross u v) (cross_within u v h k) tt)

pub divided-requires-clause-vector : goal.divided-requires-clause-vector
divided-requires-clause-vector c = wider c.cross.result (product_within c.args.u.now c.args.v.now c.cross.result c.cross.ensures c.requires.first c.requires.second) tt

pub returns-clause-within : goal.returns-clause-within
returns-clause-within c =
    rw c.divided.ensures (wider (divided c.cross.result (pos (10 ^ 6))) (divided_within c.cross.result (10 ^ 6) {n = 2 * 10 ^ 12} tt
    (product_within c.args.u.now c.args.v.now c.cross.result c.cross.ensures c.requires.first c.requires.second)) tt)
