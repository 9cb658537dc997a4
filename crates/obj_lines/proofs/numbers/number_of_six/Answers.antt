use Rattle.std.proofs.Common.{sym, arith}
use Rattle.obj_lines.proofs.Metres.{six_spelled}
use Rattle.obj_lines.proofs.numbers.number_of_six.Goals as goal

pub returns : goal.returns
returns c = six_spelled c.args.digits (omega arith) (sym c.if-not-are_digits.ensures)
