use Rattle.std.proofs.Common.{arith}
use Rattle.std.proofs.lemmas.Nat.Gcd.{IsGcd-from_zero, IsGcd-from_mod}
use Rattle.ix_num.proofs.divisor.gcd_of_sizes.Goals as goal

pub loop-y-preserved : goal.loop-y-preserved
loop-y-preserved c = record {
  keeps = λ g h. c.loop-y.invariant.keeps g (IsGcd-from_mod _ _ g h);
  small = λ n p q. let e = c.loop-y.invariant.small n p q in omega arith;
}

pub returns-clause-divisor : goal.returns-clause-divisor
returns-clause-divisor c = c.loop-y.invariant.keeps _ (IsGcd-from_zero _ _ (omega arith))

pub returns-clause-small : goal.returns-clause-small
returns-clause-small c n p q = (c.loop-y.invariant.small n p q).0
