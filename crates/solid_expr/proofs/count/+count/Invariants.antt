use Rattle.std.proofs.Common.{◌≡◌, ◌+◌, drop}
use Rattle.solid_expr.proofs.Counts.{count_all}
use Rattle.solid_expr.proofs.count.+count.Given as goal

abbrev pub invariant-count_parts-loop-solid : goal.invariant-count_parts-loop-solid
invariant-count_parts-loop-solid l = l.count + count_all (drop l.solid-index l.solids) ≡ count_all l.solids
