use Rattle.std.proofs.Common.{arith, refl}
use native.Mathlib.Nat.{dvd_antisymm, one-dvd}
use Rattle.integer_laws.proofs.Computed.{arg}
use Rattle.plane_core.proofs.Sizes.{small}
use Rattle.plane_core.proofs.walls.y_wall.Goals as goal

pub invariant_of-result : goal.invariant_of-result
invariant_of-result c = record {
  a_small = omega arith;
  b_small = omega arith;
  c_small = omega arith;
  d_small = small (arg c.args.d c.requires.small tt);
  coprime = λ k _ h _ _. dvd_antisymm h (one-dvd k);
  signed = refl;
}
