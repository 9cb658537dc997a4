use Rattle.std.proofs.Common.{◌++◌, refl, ap, subst, ◌∙◌}
use Rattle.std.specs.List.{flat_map}
use Rattle.spec_page.specs.Lines.{face_lines}
use Rattle.exact_mesh.specs.Meshes.{face_of}
use Rattle.world_print.specs.Appended.{IsAppendedInPart}
use Rattle.world_print.proofs.Appended.{begun, refused, item_more, item_stopped, items_complete}
use Rattle.obj_text.proofs.faces.put_faces.Goals as goal

pub loop-face-init : goal.loop-face-init
loop-face-init c = begun (flat_map (λ f. face_lines c.args.before (face_of f)) c.args.faces.now) refl

pub loop-face-preserved : goal.loop-face-preserved
loop-face-preserved c =
    item_more (λ f. face_lines c.args.before (face_of f)) c.args.faces.now c.loop-face.face-index c.face-item.result c.loop-face-test.true c.loop-face.invariant
    (c.in_ok-put_face.ensures ∙ ap (λ f. c.loop-face.page.items ++ face_lines c.args.before (face_of f)) c.face-item.is)

pub returns-in_err-put_face : goal.returns-in_err-put_face
returns-in_err-put_face c =
    refused c.from_residual.result c.from_residual.ensures.0
    (item_stopped (λ f. face_lines c.args.before (face_of f)) c.args.faces.now c.loop-face.face-index c.face-item.result c.loop-face-test.true c.loop-face.invariant
    (subst (λ f. IsAppendedInPart c.loop-face.page.items c.put_face.new.page.items (face_lines c.args.before (face_of f))) c.face-item.is c.in_err-put_face.ensures))

pub returns : goal.returns
returns c = items_complete (λ f. face_lines c.args.before (face_of f)) c.args.faces.now c.loop-face.face-index c.loop-face-test.false c.loop-face.invariant
