use Rattle.std.proofs.Common.{◌≡◌, map, take}
use Rattle.exact_mesh.specs.Meshes.{numbered_plane}
use Rattle.edge_cut.specs.Seen.{outer_side}
use Rattle.edge_cut.proofs.builder.outer_planes.Given as goal

abbrev pub invariant-loop-edge : goal.invariant-loop-edge
invariant-loop-edge l = map numbered_plane l.planes.items ≡ map (outer_side l.book) (take l.edge-index l.edges)
