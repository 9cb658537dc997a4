use Rattle.std.proofs.Common.{◌≡◌}
use Rattle.spec_table.specs.Innermost.{innermost}
use Rattle.step_table.proofs.Inwards.{depth}
use Rattle.step_table.proofs.typed_values.innermost.Given as goal

abbrev pub invariant-loop-found : goal.invariant-loop-found
invariant-loop-found l = innermost l.found ≡ innermost l.param

abbrev pub decreases-loop-found : goal.decreases-loop-found
decreases-loop-found l = depth l.found
