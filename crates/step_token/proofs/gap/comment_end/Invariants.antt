use Rattle.std.proofs.Common.{ℕ, ◌≤◌, ◌+◌, ◌-◌, length}
use Rattle.spec_step.specs.Gaps.{Closes}
use Rattle.step_token.proofs.gap.comment_end.Given as goal

-- no place passed so far closes the comment
abbrev pub invariant-loop-end : goal.invariant-loop-end
invariant-loop-end l = record {
  room : l.from + 2 ≤ l.end;
  within : l.end ≤ length l.source;
  before : (k : ℕ) → l.from + 4 ≤ k → k ≤ l.end + 1 → Closes l.source k → ⊥;
}

abbrev pub decreases-loop-end : goal.decreases-loop-end
decreases-loop-end l = length l.source - l.end
