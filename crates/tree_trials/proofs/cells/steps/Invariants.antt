use Rattle.std.proofs.Common.{◌<◌, length, All}
use Rattle.tree_trials.proofs.cells.steps.Given as goal

abbrev pub invariant-loop-side : goal.invariant-loop-side
invariant-loop-side l = All (λ s. s.plane.k < length l.book) l.steps.items
