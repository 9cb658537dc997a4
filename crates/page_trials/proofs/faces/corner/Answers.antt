use Rattle.std.proofs.Common.{arith}
use Rattle.std.proofs.lemmas.Int.{ints}
use Rattle.std.proofs.Math.Nat.{eq-one_of_dvd-one}
use Rattle.page_trials.proofs.faces.corner.Goals as goal

pub invariant_of-result : goal.invariant_of-result
invariant_of-result c = record {
  x_small = omega (arith, ints);
  y_small = omega (arith, ints);
  z_small = omega (arith, ints);
  w_small = omega arith;
  positive = omega (arith, ints);
  coprime = λ k x y z w. eq-one_of_dvd-one w;
}
