use Rattle.std.proofs.Common.{◌<◌, ◌^◌, arith}
use Rattle.obj_lines.proofs.Metres.{metres_front}
use Rattle.obj_lines.proofs.numbers.size_in_metres.Goals as goal

pub returns : goal.returns
returns c =
    let small : c.in_ok-size.size < 2 ^ 128 = omega arith in
    metres_front c.args.text.now c.in_ok-whole.whole c.in_ok-whole.point.now c.in_ok-whole.ensures c.in_ok-part.part c.in_ok-part.rest.now c.in_ok-part.ensures c.in_ok-size.size small c.in_ok-size.ensures
