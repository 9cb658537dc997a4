use Rattle.std.proofs.Common.{drop}
use Rattle.parity_trees.proofs.Crossings.{AreCrossingSoFar}
use Rattle.parity_trees.proofs.crossing.crossing_sides.Given as goal

-- the crossing sides so far, and the sides to come
abbrev pub invariant-loop-side : goal.invariant-loop-side
invariant-loop-side l = AreCrossingSoFar l.book l.cell.steps.items l.taken l.sides l.crossing.items (drop l.side-index l.sides)
