use Rattle.std.proofs.Common.{◌≡◌, ◌++◌, map, drop}
use Rattle.spec_place.specs.Maps.{corner}
use Rattle.grid_round.proofs.faces.round_loops.Given as goal

abbrev pub invariant-loop-found : goal.invariant-loop-found
invariant-loop-found l = l.rounded ++ map (map (corner l.under l.step)) (drop l.found-index l.loops) ≡ map (map (corner l.under l.step)) l.loops
