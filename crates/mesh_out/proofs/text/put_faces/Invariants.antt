use Rattle.std.proofs.Common.{◌≡◌, ◌++◌, drop}
use Rattle.std.specs.List.{flat_map}
use Rattle.exact_mesh.specs.Meshes.{face_of}
use Rattle.mesh_out.specs.Off.{face_line}
use Rattle.mesh_out.proofs.text.put_faces.Given as goal

-- what was put so far, with what is still to come, is the whole text
abbrev pub invariant-loop-face : goal.invariant-loop-face
invariant-loop-face l = l.text.items ++ flat_map (λ f. face_line (face_of f)) (drop l.face-index l.faces) ≡ l.fn.text.items ++ flat_map (λ f. face_line (face_of f)) l.faces
