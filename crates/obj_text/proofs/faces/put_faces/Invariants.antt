use Rattle.std.proofs.Common.{drop}
use Rattle.std.specs.List.{flat_map}
use Rattle.spec_page.specs.Lines.{face_lines}
use Rattle.exact_mesh.specs.Meshes.{face_of}
use Rattle.world_print.proofs.Appended.{IsBegun}
use Rattle.obj_text.proofs.faces.put_faces.Given as goal

-- the faces so far stand behind the old text, and the others are still to come
abbrev pub invariant-loop-face : goal.invariant-loop-face
invariant-loop-face l = IsBegun l.fn.page.items l.page.items (flat_map (λ f. face_lines l.before (face_of f)) (drop l.face-index l.faces)) (flat_map (λ f. face_lines l.before (face_of f)) l.faces)
