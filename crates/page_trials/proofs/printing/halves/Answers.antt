use Rattle.std.proofs.Common.{arith}
use Rattle.std.proofs.lemmas.Int.{ints}
use Rattle.std.proofs.Math.Nat.{eq-one_of_dvd-one}
use Rattle.page_trials.proofs.printing.halves.Goals as goal

pub invariant_of-halves : goal.invariant_of-halves
invariant_of-halves c = record {
  x_small = omega arith;
  y_small = omega arith;
  z_small = omega arith;
  w_small = omega arith;
  positive = omega (arith, ints);
  coprime = λ k x y z w. eq-one_of_dvd-one y;
}
