use Rattle.std.proofs.Common.{◌≡◌, ◌<◌, ◌^◌, take}
use Rattle.spec_num.specs.Decimals.{value}
use Rattle.step_grammar.proofs.classify.number.Given as goal

abbrev pub invariant-loop-digit : goal.invariant-loop-digit
invariant-loop-digit l = record {
  is : l.number ≡ value (take l.digit-index l.digits);
  small : l.number < 10 ^ l.digit-index;
}
