use Rattle.std.proofs.Common.{◌+◌, ◌*◌, take, arith, ◌∙◌, ap, sym}
use Rattle.spec_num.specs.Decimals.{value}
use Rattle.step_grammar.proofs.Digits.{value_more, below_power, few_digits}
use Rattle.step_grammar.proofs.classify.number.Goals as goal

pub overflow_mul-number : goal.overflow_mul-number
overflow_mul-number c =
    let few = few_digits c.loop-digit.number c.loop-digit.digit-index 0 18 c.loop-digit.invariant.small (omega arith) (omega arith) in
    omega (arith, few)

pub overflow_add-number : goal.overflow_add-number
overflow_add-number c =
    let digit = c.requires.digits c.loop-digit.digit-index 0 (omega arith) in
    let few = few_digits c.loop-digit.number c.loop-digit.digit-index c.from.result 18 c.loop-digit.invariant.small (omega (arith, digit)) (omega arith) in
    omega (arith, few)

pub loop-digit-preserved : goal.loop-digit-preserved
loop-digit-preserved c =
    let digit = c.requires.digits c.loop-digit.digit-index 0 (omega arith) in
    record {
      is = ap (λ n. n * 10 + c.from.result) c.loop-digit.invariant.is
          ∙ ap (λ d. value (take c.loop-digit.digit-index c.args.digits.now) * 10 + d) c.from.ensures
          ∙ sym (value_more c.args.digits.now c.loop-digit.digit-index c.loop-digit-test.true);
      small = below_power c.loop-digit.number c.loop-digit.digit-index c.from.result c.loop-digit.invariant.small (omega (arith, digit));
    }
