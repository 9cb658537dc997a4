use Rattle.spec_page.specs.Lines.{size_in_metres, metres}
use Rattle.obj_lines.specs.Templates.{IsFrontOf, IsWord}
use Rattle.obj_lines.proofs.Signed.{signed_front, no_signed, no_signed_size, packed}
use Rattle.obj_lines.proofs.Metres.{metres_plain}
use Rattle.obj_lines.proofs.numbers.metres.Goals as goal

pub returns-in_err-size : goal.returns-in_err-size
returns-in_err-size c =
    let off = c.without_minus-negative.ensures in
    rw c.from_residual.ensures
    (no_signed size_in_metres metres_plain c.args.text.now c.without_minus-negative.result.1.now c.without_minus-negative.result.0 off c.in_err-size.ensures)

pub returns-in_err-number : goal.returns-in_err-number
returns-in_err-number c =
    let off = c.without_minus-negative.ensures in
    rw c.from_residual-in_err-number.ensures
    (no_signed_size size_in_metres metres_plain c.args.text.now c.without_minus-negative.result.1.now c.without_minus-negative.result.0 off c.in_ok-size.size c.in_ok-size.rest.now c.in_ok-size.ensures c.in_err-number.ensures)

pub returns : goal.returns
returns c =
    let off = c.without_minus-negative.ensures in
    let n = c.in_ok-number.number in
    packed (λ m. IsFrontOf metres IsWord c.args.text.now m c.in_ok-size.rest.now) n c.in_ok-number.ensures.0
    (signed_front size_in_metres metres_plain c.args.text.now c.without_minus-negative.result.1.now c.without_minus-negative.result.0 off c.in_ok-size.size n c.in_ok-size.rest.now c.in_ok-size.ensures c.in_ok-number.ensures.0 c.in_ok-number.ensures.1)
