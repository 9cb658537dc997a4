use Rattle.std.proofs.Common.{◌≡◌, ◌+◌, drop, length}
use Rattle.std.specs.Prelude.{sum_by}
use Rattle.solid_expr.proofs.count.count_corners.Given as goal

abbrev pub invariant-loop-l : goal.invariant-loop-l
invariant-loop-l l = l.count + sum_by length (drop l.l-index l.loops) ≡ sum_by length l.loops
