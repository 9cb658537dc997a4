use Rattle.std.proofs.Common.{◌≡◌, drop}
use Rattle.solid_expr.proofs.Counts.{are_bounded}
use Rattle.solid_expr.proofs.count.+bounded.Given as goal

abbrev pub invariant-are_bounded-loop-solid : goal.invariant-are_bounded-loop-solid
invariant-are_bounded-loop-solid l = are_bounded (drop l.solid-index l.solids) ≡ are_bounded l.solids
