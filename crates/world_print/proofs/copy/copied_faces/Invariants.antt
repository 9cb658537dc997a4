use Rattle.std.proofs.Common.{◌≡◌, map, take}
use Rattle.exact_mesh.specs.Meshes.{face_of}
use Rattle.world_print.proofs.copy.copied_faces.Given as goal

-- so many faces are copied
abbrev pub invariant-loop-face : goal.invariant-loop-face
invariant-loop-face l = map face_of l.copies.items ≡ map face_of (take l.face-index l.faces)
