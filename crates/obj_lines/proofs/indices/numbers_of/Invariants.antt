use Rattle.std.proofs.Common.{length}
use Rattle.obj_lines.proofs.Lists.{IsSplit}
use Rattle.obj_lines.proofs.indices.numbers_of.Given as goal

abbrev pub invariant-loop-rest : goal.invariant-loop-rest
invariant-loop-rest l = IsSplit l.text l.numbers.items l.rest

abbrev pub decreases-loop-rest : goal.decreases-loop-rest
decreases-loop-rest l = length l.rest
