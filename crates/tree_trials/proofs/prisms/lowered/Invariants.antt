use Rattle.std.proofs.Common.{◌≡◌, length}
use Rattle.tree_trials.proofs.prisms.lowered.Given as goal

abbrev pub invariant-loop-place : goal.invariant-loop-place
invariant-loop-place l = length l.lowered.items ≡ l.place-index
