use Rattle.std.proofs.Common.{◌≡◌, ◌^◌, ◌≤◌, drop}
use Rattle.spec_num.specs.Decimals.{value_after}
use Rattle.ix_num.specs.Magnitudes.{AreDigits}
use Rattle.ix_num.proofs.magnitude.grow.Given as goal

abbrev pub invariant-loop-digit : goal.invariant-loop-digit
invariant-loop-digit l = record {
  small : l.number ≤ 10 ^ 21;
  grown : value_after l.number (drop l.digit-index l.digits) ≡ value_after l.fn.start l.digits;
  digits : AreDigits (drop l.digit-index l.digits);
}
