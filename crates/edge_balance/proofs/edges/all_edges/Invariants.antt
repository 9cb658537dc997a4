use Rattle.std.proofs.Common.{◌≡◌, ◌++◌, drop, map}
use Rattle.std.specs.List.{flat_map}
use Rattle.spec_page.specs.Faces.{edge_ends}
use Rattle.exact_mesh.specs.Meshes.{face_of}
use Rattle.edge_balance.proofs.edges.all_edges.Given as goal

-- those so far and those that are left make up all
abbrev pub invariant-loop-face : goal.invariant-loop-face
invariant-loop-face l = l.edges.items ++ flat_map edge_ends (map face_of (drop l.face-index l.faces)) ≡ flat_map edge_ends (map face_of l.faces)
