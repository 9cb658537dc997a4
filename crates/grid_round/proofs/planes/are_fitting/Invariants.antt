use Rattle.std.proofs.Common.{◌≡◌, map, drop}
use Rattle.std.specs.List.{list_all}
use Rattle.spec_grid.specs.Rounded.{is_triangle_fitting}
use Rattle.grid_solid.specs.Triangles.{triangle_of}
use Rattle.grid_round.proofs.planes.are_fitting.Given as goal

abbrev pub invariant-loop-triangle : goal.invariant-loop-triangle
invariant-loop-triangle l = list_all is_triangle_fitting (map triangle_of (drop l.triangle-index l.triangles)) ≡ list_all is_triangle_fitting (map triangle_of l.triangles)
