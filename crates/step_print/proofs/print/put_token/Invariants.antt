use Rattle.std.proofs.Common.{◌≡◌, ◌++◌, take, map}
use Rattle.std.specs.Char.{to_ascii_uppercase}
use Rattle.step_print.proofs.print.put_token.Given as goal

abbrev pub invariant-loop-byte : goal.invariant-loop-byte
invariant-loop-byte l = l.page.items ≡ l.fn.page.items ++ map to_ascii_uppercase (take l.byte-index l.text)
