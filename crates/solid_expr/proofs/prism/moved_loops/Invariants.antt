use Rattle.std.proofs.Common.{◌≡◌, ◌++◌, map, drop}
use Rattle.spec_solid.specs.Extrusions.{plus}
use Rattle.solid_expr.proofs.prism.moved_loops.Given as goal

abbrev pub invariant-loop-l : goal.invariant-loop-l
invariant-loop-l l = l.moved ++ map (map (λ u. plus u l.sweep)) (drop l.l-index l.loops) ≡ map (map (λ u. plus u l.sweep)) l.loops
