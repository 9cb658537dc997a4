use Rattle.grid_round.proofs.Walks.{AreItemsSoFar}
use Rattle.grid_round.proofs.element.round_items.Given as goal

abbrev pub invariant-loop-item : goal.invariant-loop-item
invariant-loop-item l = AreItemsSoFar l.step l.items l.item-index l.rounded
