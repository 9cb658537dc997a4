use Rattle.std.proofs.Common.{◌≡◌, ◌++◌, ◌∙◌, [], ap, sym}
use Rattle.std.proofs.lemmas.List.Folds.{flat_map-map}
use Rattle.std.specs.List.{flat_map}
use Rattle.exact_mesh.specs.Meshes.{vector_of, face_of}
use Rattle.world_print.specs.Elements.{element_of}
use Rattle.mesh_out.specs.Off.{place_line, corner_line, face_line, block_head}
use Rattle.mesh_out.proofs.Texts.{joined_three, page_lines}
use Rattle.mesh_out.proofs.text.off_block.Goals as goal

pub returns : goal.returns
returns c =
    let mesh = c.args.mesh.now in
    let first = c.put_head.new.text.items in
    let second = c.put_corners.new.text.items in
    let e = element_of mesh in
    let head_put : first ≡ [] ++ block_head e = c.in_ok-put_head.ensures ∙ ap (λ l. l ++ block_head e) c.new-text.ensures.items in
    let corners_put : second ≡ first ++ flat_map corner_line e.corners =
    c.in_ok-put_corners.ensures ∙ ap (λ l. first ++ flat_map (λ v. place_line (vector_of v)) l) c.deref.ensures.value
    ∙ ap (λ l. first ++ l) (sym (page_lines mesh.mesh.corners.items mesh.printed.items mesh.paired)) in
    let faces_put : c.put_faces.new.text.items ≡ second ++ flat_map face_line e.faces =
    c.in_ok-put_faces.ensures ∙ ap (λ l. second ++ flat_map (λ f. face_line (face_of f)) l) c.deref-2.ensures.value
    ∙ ap (λ l. second ++ l) (sym (flat_map-map face_line face_of mesh.mesh.faces.items)) in
    joined_three [] first second c.put_faces.new.text.items (block_head e) (flat_map corner_line e.corners) (flat_map face_line e.faces) head_put corners_put faces_put
