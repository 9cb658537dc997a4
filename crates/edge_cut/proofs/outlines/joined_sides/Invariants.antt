use Rattle.edge_cut.proofs.Made.{AreMade}
use Rattle.edge_cut.proofs.outlines.joined_sides.Given as goal

abbrev pub invariant-loop-i : goal.invariant-loop-i
invariant-loop-i l = AreMade l.i l.sides.items l.before l.edges l.after l.starts l.ends
