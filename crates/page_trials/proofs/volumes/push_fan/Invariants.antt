use Rattle.std.proofs.Common.{◌<◌, All}
use Rattle.page_trials.proofs.volumes.push_fan.Given as goal

abbrev pub invariant-loop-i : goal.invariant-loop-i
invariant-loop-i l = All (λ i. i < 5) l.corners.items
