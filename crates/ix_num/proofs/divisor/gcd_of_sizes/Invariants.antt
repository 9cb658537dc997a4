use Rattle.std.proofs.Common.{ℕ, ◌<◌}
use Rattle.std.specs.Int.{IsGcd}
use Rattle.ix_num.proofs.divisor.gcd_of_sizes.Given as goal

abbrev pub invariant-loop-y : goal.invariant-loop-y
invariant-loop-y l = record {
  keeps : (g : ℕ) → IsGcd l.x l.y g → IsGcd l.fn.a l.fn.b g;
  small : (n : ℕ) → l.fn.a < n → l.fn.b < n → (l.x < n) × (l.y < n);
}

abbrev pub decreases-loop-y : goal.decreases-loop-y
decreases-loop-y l = l.y
