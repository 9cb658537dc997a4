use Rattle.std.proofs.Common.{◌≤◌, ◌-◌, length}
use Rattle.spec_step.specs.Gaps.{Between}
use Rattle.step_token.proofs.gap.skip.Given as goal

abbrev pub invariant-loop-at : goal.invariant-loop-at
invariant-loop-at l = record {
  gap : Between l.source l.from l.at;
  within : l.at ≤ length l.source;
}

abbrev pub decreases-loop-at : goal.decreases-loop-at
decreases-loop-at l = length l.source - l.at
