use Rattle.std.proofs.Common.{arith}
use Rattle.ix_num.proofs.Digits.{AreDigits-drop, capped_on}
use Rattle.ix_num.proofs.decimal.capped_value.Goals as goal

pub loop-digit-preserved : goal.loop-digit-preserved
loop-digit-preserved c = record {
  small = omega arith;
  grown = capped_on c.args.digits.now c.loop-digit.digit-index c.loop-digit.number c.min-number.result _ _ c.loop-digit-test.true c.min-number.ensures c.loop-digit.invariant.grown;
  digits = AreDigits-drop _ c.args.digits.now c.requires;
}
