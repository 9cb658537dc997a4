use Rattle.std.proofs.Common.{◌≡◌, ◌++◌, drop}
use Rattle.std.specs.List.{flat_map}
use Rattle.spec_solid.specs.Extrusions.{loop_edges}
use Rattle.grid_round.proofs.edges.push_loops.Given as goal

abbrev pub invariant-loop-found : goal.invariant-loop-found
invariant-loop-found l = l.edges.items ++ flat_map loop_edges (drop l.found-index l.loops) ≡ l.fn.edges.items ++ flat_map loop_edges l.loops
