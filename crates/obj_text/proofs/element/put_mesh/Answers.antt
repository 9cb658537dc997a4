use Rattle.std.proofs.Common.{◌≡◌, ◌<◌, ◌+◌, ◌^◌, ◌++◌, ◌∙◌, All, ap, sym, subst, map}
use Rattle.std.specs.List.{flat_map}
use Rattle.spec_page.specs.Lines.{corner_lines, face_lines, volume_line}
use Rattle.exact_mesh.specs.Meshes.{face_of}
use Rattle.world_print.specs.Elements.{page_corners}
use Rattle.world_print.specs.Appended.{IsAppendedInPart}
use Rattle.world_print.proofs.Appended.{refused, begun_three, one_more, stopped_in, last}
use Rattle.obj_text.proofs.Texts.{flat_map-map, places_fit}
use Rattle.obj_text.proofs.element.put_mesh.Goals as goal

pub put_faces-requires : goal.put_faces-requires
put_faces-requires c =
    let mesh = c.args.mesh.now in
    subst (λ fs. All (λ f. All (λ i. c.args.before + i + 1 < 2 ^ 128) f.corners.items) fs) (sym c.deref-3.ensures.value)
    (places_fit c.args.before mesh.mesh.corners.items mesh.mesh.faces.items c.requires mesh.places)

pub returns-in_err-put_corners : goal.returns-in_err-put_corners
returns-in_err-put_corners c =
    let mesh = c.args.mesh.now in
    let corners_text = flat_map corner_lines (page_corners mesh.mesh.corners.items mesh.printed.items) in
    let faces_text = flat_map (face_lines c.args.before) (map face_of mesh.mesh.faces.items) in
    refused c.from_residual.result c.from_residual.ensures.0
    (stopped_in corners_text (faces_text ++ volume_line mesh.six) (begun_three corners_text faces_text (volume_line mesh.six))
    (subst (λ t. IsAppendedInPart c.args.page.now.items c.put_corners.new.page.items t)
    (λ i. flat_map corner_lines (page_corners (c.deref.ensures.value i) (c.deref-2.ensures.value i))) c.in_err-put_corners.ensures))

pub returns-in_err-put_faces : goal.returns-in_err-put_faces
returns-in_err-put_faces c =
    let old = c.args.page.now.items in
    let first = c.put_corners.new.page.items in
    let mesh = c.args.mesh.now in
    let faces = mesh.mesh.faces.items in
    let corners_text = flat_map corner_lines (page_corners mesh.mesh.corners.items mesh.printed.items) in
    let faces_text = flat_map (face_lines c.args.before) (map face_of faces) in
    let corners_put : first ≡ old ++ corners_text =
    c.in_ok-put_corners.ensures ∙ (λ i. old ++ flat_map corner_lines (page_corners (c.deref.ensures.value i) (c.deref-2.ensures.value i))) in
    refused c.from_residual-in_err-put_faces.result c.from_residual-in_err-put_faces.ensures.0
    (stopped_in faces_text (volume_line mesh.six) (one_more corners_text (begun_three corners_text faces_text (volume_line mesh.six)) corners_put)
    (subst (λ t. IsAppendedInPart first c.put_faces.new.page.items t)
    (ap (λ l. flat_map (λ f. face_lines c.args.before (face_of f)) l) c.deref-3.ensures.value ∙ sym (flat_map-map (face_lines c.args.before) face_of faces))
    c.in_err-put_faces.ensures))

pub returns : goal.returns
returns c =
    let old = c.args.page.now.items in
    let first = c.put_corners.new.page.items in
    let second = c.put_faces.new.page.items in
    let mesh = c.args.mesh.now in
    let faces = mesh.mesh.faces.items in
    let corners_text = flat_map corner_lines (page_corners mesh.mesh.corners.items mesh.printed.items) in
    let faces_text = flat_map (face_lines c.args.before) (map face_of faces) in
    let corners_put : first ≡ old ++ corners_text =
    c.in_ok-put_corners.ensures ∙ (λ i. old ++ flat_map corner_lines (page_corners (c.deref.ensures.value i) (c.deref-2.ensures.value i))) in
    let faces_put : second ≡ first ++ faces_text =
    c.in_ok-put_faces.ensures ∙ ap (λ l. first ++ flat_map (λ f. face_lines c.args.before (face_of f)) l) c.deref-3.ensures.value
    ∙ ap (λ l. first ++ l) (sym (flat_map-map (face_lines c.args.before) face_of faces)) in
    last c.put_volume.new.page.items c.put_volume.result
    (one_more faces_text (one_more corners_text (begun_three corners_text faces_text (volume_line mesh.six)) corners_put) faces_put)
    c.put_volume.ensures
