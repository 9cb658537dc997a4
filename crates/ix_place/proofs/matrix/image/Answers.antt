use Rattle.std.proofs.Common.{◌≡◌, ◌^◌, leb→le}
use Rattle.spec_space.specs.declared.Vector.{Vector}
use Rattle.spec_place.specs.Vectors.{plus, times, one, IsWithin}
use Rattle.ix_place.proofs.Sizes.{wider, times_within, plus_within}
use Rattle.ix_place.proofs.matrix.image.Goals as goal

offset_within : (off t : Vector) → t ≡ times one off → IsWithin (10 ^ 16) off → IsWithin (10 ^ 25) t
offset_within off t is h = rw is (wider (times one off) (times_within one off {m = 10 ^ 9} (leb→le (10 ^ 9) (10 ^ 9) tt) h) tt)

pub plus-requires-clause-second : goal.plus-requires-clause-second
plus-requires-clause-second c = wider c.times.result (offset_within c.args.t.now.off c.times.result c.times.ensures c.requires.map.off) tt

pub returns-clause-within : goal.returns-clause-within
returns-clause-within c =
    rw c.plus.ensures (wider (plus c.turned.result c.times.result) (plus_within c.turned.result c.times.result c.turned.ensures.within (offset_within c.args.t.now.off c.times.result c.times.ensures c.requires.map.off)) tt)
