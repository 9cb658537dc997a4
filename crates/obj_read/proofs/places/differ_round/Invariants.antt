use Rattle.std.proofs.Common.{◌≡◌, drop}
use Rattle.obj_read.specs.States.{differ_along}
use Rattle.obj_read.proofs.places.differ_round.Given as goal

-- what is left decides
abbrev pub invariant-loop-to : goal.invariant-loop-to
invariant-loop-to l = differ_along l.first l.from (drop l.to-index l.rest) ≡ differ_along l.first l.first l.rest
