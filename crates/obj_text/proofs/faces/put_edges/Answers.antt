use Rattle.std.proofs.Common.{[], ◌++◌, codes, refl, ap, subst, ◌∙◌}
use Rattle.std.specs.List.{flat_map}
use Rattle.spec_page.specs.Lines.{plane_line}
use Rattle.exact_mesh.specs.Meshes.{numbered_plane}
use Rattle.world_print.specs.Appended.{IsAppendedInPart}
use Rattle.world_print.proofs.Appended.{begun, refused, item_more, item_stopped, items_complete}
use Rattle.obj_text.proofs.faces.put_edges.Goals as goal

pub loop-edge-init : goal.loop-edge-init
loop-edge-init c = begun (flat_map (λ e. plane_line (codes "#e") (numbered_plane e)) c.args.edges.now) refl

pub loop-edge-preserved : goal.loop-edge-preserved
loop-edge-preserved c =
    item_more (λ e. plane_line (codes "#e") (numbered_plane e)) c.args.edges.now c.loop-edge.edge-index [] c.loop-edge-test.true c.loop-edge.invariant
    (c.in_ok-put_plane.ensures ∙ ap (λ h. c.loop-edge.page.items ++ plane_line (codes "#e") h) c.plane.ensures)

pub returns-in_err-put_plane : goal.returns-in_err-put_plane
returns-in_err-put_plane c =
    refused c.from_residual.result c.from_residual.ensures.0
    (item_stopped (λ e. plane_line (codes "#e") (numbered_plane e)) c.args.edges.now c.loop-edge.edge-index [] c.loop-edge-test.true c.loop-edge.invariant
    (subst (λ h. IsAppendedInPart c.loop-edge.page.items c.put_plane.new.page.items (plane_line (codes "#e") h)) c.plane.ensures c.in_err-put_plane.ensures))

pub returns : goal.returns
returns c = items_complete (λ e. plane_line (codes "#e") (numbered_plane e)) c.args.edges.now c.loop-edge.edge-index c.loop-edge-test.false c.loop-edge.invariant
