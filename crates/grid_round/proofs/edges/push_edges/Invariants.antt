use Rattle.std.proofs.Common.{◌≡◌, ◌++◌, drop}
use Rattle.spec_solid.specs.Extrusions.{edges_from, loop_edges}
use Rattle.grid_round.proofs.edges.push_edges.Given as goal

abbrev pub invariant-loop-k : goal.invariant-loop-k
invariant-loop-k l = l.edges.items ++ edges_from l.first (drop l.k l.points) ≡ l.fn.edges.items ++ loop_edges l.points
