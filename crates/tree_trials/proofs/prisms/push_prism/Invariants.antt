use Rattle.std.proofs.Common.{All}
use Rattle.tree_trials.specs.Faces.{IsSmall}
use Rattle.tree_trials.proofs.prisms.push_prism.Given as goal

abbrev pub invariant-loop-k : goal.invariant-loop-k
invariant-loop-k l = All IsSmall l.faces.items
