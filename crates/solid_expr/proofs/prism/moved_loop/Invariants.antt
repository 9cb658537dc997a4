use Rattle.std.proofs.Common.{◌≡◌, ◌++◌, map, drop}
use Rattle.spec_solid.specs.Extrusions.{plus}
use Rattle.solid_expr.proofs.prism.moved_loop.Given as goal

abbrev pub invariant-loop-u : goal.invariant-loop-u
invariant-loop-u l = l.moved.items ++ map (λ u. plus u l.sweep) (drop l.u-index l.points) ≡ map (λ u. plus u l.sweep) l.points
