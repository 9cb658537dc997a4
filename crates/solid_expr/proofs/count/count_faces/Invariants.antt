use Rattle.std.proofs.Common.{◌≡◌, ◌+◌, drop}
use Rattle.std.specs.Prelude.{sum_by}
use Rattle.spec_shape.specs.Shapes.{face_count}
use Rattle.solid_expr.proofs.count.count_faces.Given as goal

abbrev pub invariant-loop-face : goal.invariant-loop-face
invariant-loop-face l = l.count + sum_by face_count (drop l.face-index l.faces) ≡ sum_by face_count l.faces
