use Rattle.std.proofs.Common.{◌≡◌, ◌+◌, ◌*◌, ◌-◌, ◌^◌, ◌≤◌, drop, map}
use Rattle.spec_page.specs.Faces.{edge_count}
use Rattle.exact_mesh.specs.Meshes.{face_of}
use Rattle.exact_mesh.proofs.mesh.edge_count.Given as goal

-- those so far and those that are left make up all
abbrev pub invariant-loop-face : goal.invariant-loop-face
invariant-loop-face l = record {
  few : l.count ≤ l.face-index * (2 ^ 64 - 1);
  all : l.count + edge_count (map face_of (drop l.face-index l.m.faces.items)) l.u l.v ≡ edge_count (map face_of l.m.faces.items) l.u l.v;
}
