use Rattle.std.proofs.Common.{◌≡◌, ◌++◌, drop}
use Rattle.solid_expr.specs.Sides.{loop_sides}
use Rattle.solid_expr.proofs.Prisms.{sides_from}
use Rattle.solid_expr.proofs.prism.push_sides.Given as goal

abbrev pub invariant-loop-k : goal.invariant-loop-k
invariant-loop-k l = l.faces.items ++ sides_from l.at l.sweep l.first (drop l.k l.points) ≡ l.fn.faces.items ++ loop_sides l.at l.sweep l.points
