use Rattle.std.proofs.Common.{◌≡◌, ◌++◌, ◌∙◌, ap, sym, subst, codes, map}
use Rattle.std.specs.List.{flat_map}
use Rattle.spec_page.specs.Lines.{plane_line, indices_line}
use Rattle.exact_mesh.specs.Meshes.{numbered_plane}
use Rattle.world_print.specs.Appended.{IsAppendedInPart, IsAppended}
use Rattle.world_print.proofs.Appended.{refused, begun_three, one_more, stopped_in, last}
use Rattle.obj_text.proofs.Texts.{flat_map-map}
use Rattle.obj_text.proofs.faces.put_face.Goals as goal

pub returns-in_err-put_plane : goal.returns-in_err-put_plane
returns-in_err-put_plane c =
    let face = c.args.face.now in
    let plane_text = plane_line (codes "#p") (numbered_plane face.plane) in
    let edges_text = flat_map (plane_line (codes "#e")) (map numbered_plane face.edges.items) in
    let corners_text = indices_line c.args.before face.corners.items in
    refused c.from_residual.result c.from_residual.ensures.0
    (stopped_in plane_text (edges_text ++ corners_text) (begun_three plane_text edges_text corners_text)
    (subst (λ h. IsAppendedInPart c.args.page.now.items c.put_plane.new.page.items (plane_line (codes "#p") h)) c.plane.ensures c.in_err-put_plane.ensures))

pub returns-in_err-put_edges : goal.returns-in_err-put_edges
returns-in_err-put_edges c =
    let face = c.args.face.now in
    let old = c.args.page.now.items in
    let first = c.put_plane.new.page.items in
    let plane_text = plane_line (codes "#p") (numbered_plane face.plane) in
    let edges_text = flat_map (plane_line (codes "#e")) (map numbered_plane face.edges.items) in
    let corners_text = indices_line c.args.before face.corners.items in
    let plane_put : first ≡ old ++ plane_text = c.in_ok-put_plane.ensures ∙ ap (λ h. old ++ plane_line (codes "#p") h) c.plane.ensures in
    refused c.from_residual-in_err-put_edges.result c.from_residual-in_err-put_edges.ensures.0
    (stopped_in edges_text corners_text (one_more plane_text (begun_three plane_text edges_text corners_text) plane_put)
    (subst (λ t. IsAppendedInPart first c.put_edges.new.page.items t)
    (ap (λ l. flat_map (λ e. plane_line (codes "#e") (numbered_plane e)) l) c.deref.ensures.value ∙ sym (flat_map-map (plane_line (codes "#e")) numbered_plane face.edges.items))
    c.in_err-put_edges.ensures))

pub returns : goal.returns
returns c =
    let old = c.args.page.now.items in
    let first = c.put_plane.new.page.items in
    let second = c.put_edges.new.page.items in
    let face = c.args.face.now in
    let plane_text = plane_line (codes "#p") (numbered_plane face.plane) in
    let edges_text = flat_map (plane_line (codes "#e")) (map numbered_plane face.edges.items) in
    let corners_text = indices_line c.args.before face.corners.items in
    let plane_put : first ≡ old ++ plane_text = c.in_ok-put_plane.ensures ∙ ap (λ h. old ++ plane_line (codes "#p") h) c.plane.ensures in
    let edges_put : second ≡ first ++ edges_text =
    c.in_ok-put_edges.ensures ∙ ap (λ l. first ++ flat_map (λ e. plane_line (codes "#e") (numbered_plane e)) l) c.deref.ensures.value
    ∙ ap (λ l. first ++ l) (sym (flat_map-map (plane_line (codes "#e")) numbered_plane face.edges.items)) in
    last c.put_indices.new.page.items c.put_indices.result
    (one_more edges_text (one_more plane_text (begun_three plane_text edges_text corners_text) plane_put) edges_put)
    (subst (λ l. IsAppended c.put_indices.result second c.put_indices.new.page.items (indices_line c.args.before l)) c.deref-2.ensures.value c.put_indices.ensures)
