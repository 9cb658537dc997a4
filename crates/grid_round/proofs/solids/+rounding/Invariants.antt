use Rattle.grid_round.proofs.Walks.{ArePartsSoFar}
use Rattle.grid_round.proofs.solids.+rounding.Given as goal

abbrev pub invariant-round_parts-loop-part : goal.invariant-round_parts-loop-part
invariant-round_parts-loop-part l = ArePartsSoFar l.step l.parts l.part-index l.rounded
