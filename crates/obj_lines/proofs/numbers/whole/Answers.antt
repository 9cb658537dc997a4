use Rattle.std.specs.Fmt.{decimal, signed_decimal}
use Rattle.obj_lines.specs.Templates.{IsFrontOf, IsWord}
use Rattle.obj_lines.proofs.Signed.{decimal_plain, signed_front, no_signed, no_signed_size, packed, whole_front, no_whole}
use Rattle.obj_lines.proofs.numbers.whole.Goals as goal

pub returns-in_err-size : goal.returns-in_err-size
returns-in_err-size c =
    let off = c.without_minus-negative.ensures in
    rw c.from_residual.ensures
    (no_whole c.args.text.now (no_signed decimal decimal_plain c.args.text.now c.without_minus-negative.result.1.now c.without_minus-negative.result.0 off c.in_err-size.ensures))

pub returns-in_err-number : goal.returns-in_err-number
returns-in_err-number c =
    let off = c.without_minus-negative.ensures in
    rw c.from_residual-in_err-number.ensures
    (no_whole c.args.text.now (no_signed_size decimal decimal_plain c.args.text.now c.without_minus-negative.result.1.now c.without_minus-negative.result.0 off c.in_ok-size.size c.in_ok-size.rest.now c.in_ok-size.ensures c.in_err-number.ensures))

pub returns : goal.returns
returns c =
    let off = c.without_minus-negative.ensures in
    let n = c.in_ok-number.number in
    packed (λ m. IsFrontOf signed_decimal IsWord c.args.text.now m c.in_ok-size.rest.now) n c.in_ok-number.ensures.0
    (whole_front c.args.text.now n c.in_ok-size.rest.now
    (signed_front decimal decimal_plain c.args.text.now c.without_minus-negative.result.1.now c.without_minus-negative.result.0 off c.in_ok-size.size n c.in_ok-size.rest.now c.in_ok-size.ensures c.in_ok-number.ensures.0 c.in_ok-number.ensures.1))
