use Rattle.std.proofs.Common.{◌≡◌, ◌++◌}
use Rattle.model_gen.specs.Model.{holes}
use Rattle.model_gen.proofs.model.put_holes.Given as goal

abbrev pub invariant-loop-i : goal.invariant-loop-i
invariant-loop-i l = l.page.items ≡ l.fn.page.items ++ holes l.i
