use Rattle.std.proofs.Common.{◌≡◌, ◌++◌, map, drop}
use Rattle.spec_place.specs.Maps.{corner}
use Rattle.grid_round.proofs.corners.corners.Given as goal

abbrev pub invariant-loop-point : goal.invariant-loop-point
invariant-loop-point l = l.rounded.items ++ map (corner l.under l.step) (drop l.point-index l.points) ≡ map (corner l.under l.step) l.points
