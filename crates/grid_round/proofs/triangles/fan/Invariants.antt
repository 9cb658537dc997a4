use Rattle.std.proofs.Common.{◌≡◌, ◌++◌, drop, map}
use Rattle.grid_solid.specs.Triangles.{triangle_of}
use Rattle.grid_round.specs.Fans.{fan_triangle}
use Rattle.grid_round.proofs.triangles.fan.Given as goal

abbrev pub invariant-loop-edge : goal.invariant-loop-edge
invariant-loop-edge l = map triangle_of l.triangles.items ++ map (fan_triangle l.apex) (drop l.edge-index l.edges) ≡ map (fan_triangle l.apex) l.edges
