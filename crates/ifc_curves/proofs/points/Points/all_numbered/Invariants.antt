use Rattle.std.proofs.Common.{◌≡◌, ◌++◌, drop}
use Rattle.spec_geometry.specs.Curves.{points_at}
use Rattle.ifc_curves.proofs.points.Points.all_numbered.Given as goal

abbrev pub invariant-loop-number : goal.invariant-loop-number
invariant-loop-number l = points_at l.self l.numbers ≡ l.points ++ points_at l.self (drop l.number-index l.numbers)
