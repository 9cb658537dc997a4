use Rattle.std.proofs.Common.{arith}
use Rattle.std.proofs.lemmas.Int.{ints}
use Rattle.std.proofs.Math.Nat.{eq-one_of_dvd-one}
use Rattle.mesh_check.proofs.tests.far.Goals as goal

pub invariant_of-corner : goal.invariant_of-corner
invariant_of-corner c = record {
  x_small = omega arith;
  y_small = omega arith;
  z_small = omega arith;
  w_small = omega arith;
  positive = omega (arith, ints);
  coprime = λ k x y z w. eq-one_of_dvd-one x;
}
