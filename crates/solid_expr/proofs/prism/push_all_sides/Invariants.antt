use Rattle.std.proofs.Common.{◌≡◌, ◌++◌, drop}
use Rattle.std.specs.List.{flat_map}
use Rattle.solid_expr.specs.Sides.{loop_sides}
use Rattle.solid_expr.proofs.prism.push_all_sides.Given as goal

abbrev pub invariant-loop-l : goal.invariant-loop-l
invariant-loop-l l = l.faces.items ++ flat_map (loop_sides l.at l.sweep) (drop l.l-index l.loops) ≡ l.fn.faces.items ++ flat_map (loop_sides l.at l.sweep) l.loops
