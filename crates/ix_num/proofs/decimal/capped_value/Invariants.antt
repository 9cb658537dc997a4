use Rattle.std.proofs.Common.{◌≡◌, ◌^◌, ◌≤◌, drop, min}
use Rattle.spec_num.specs.Decimals.{value_after}
use Rattle.ix_num.specs.Magnitudes.{AreDigits}
use Rattle.ix_num.proofs.decimal.capped_value.Given as goal

abbrev pub invariant-loop-digit : goal.invariant-loop-digit
invariant-loop-digit l = record {
  small : l.number ≤ 2 ^ 70;
  grown : min (value_after l.number (drop l.digit-index l.digits)) (2 ^ 70) ≡ min (value_after 0 l.digits) (2 ^ 70);
  digits : AreDigits (drop l.digit-index l.digits);
}
