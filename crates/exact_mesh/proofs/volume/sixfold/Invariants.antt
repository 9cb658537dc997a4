use Rattle.std.proofs.Common.{◌≡◌, ◌*◌, ◌^◌, ◌≤◌, ◌+ℤ◌, unsigned_abs, drop}
use Rattle.exact_mesh.specs.Meshes.{mesh_volume}
use Rattle.exact_mesh.proofs.volume.sixfold.Given as goal

-- what was added so far, with what is still to come, is the whole volume
abbrev pub invariant-loop-face : goal.invariant-loop-face
invariant-loop-face l = record {
  size : unsigned_abs l.sum ≤ l.face-index * 2 ^ 191;
  all : l.sum +ℤ mesh_volume l.corners (drop l.face-index l.faces) ≡ mesh_volume l.corners l.faces;
}
