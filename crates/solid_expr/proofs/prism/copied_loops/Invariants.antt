use Rattle.std.proofs.Common.{◌≡◌, ◌++◌, drop}
use Rattle.solid_expr.proofs.prism.copied_loops.Given as goal

abbrev pub invariant-loop-l : goal.invariant-loop-l
invariant-loop-l l = l.copies ++ drop l.l-index l.loops ≡ l.loops
