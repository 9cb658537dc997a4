use Rattle.std.proofs.Common.{ℕ, List, map, ap, sym, ◌∙◌, true, false, Some}
use Rattle.spec_page.specs.Element.{Face}
use Rattle.exact_mesh.specs.Meshes.{numbered_plane}
use Rattle.obj_read.specs.States.{Open, with_face}
use Rattle.obj_read.specs.Readers.{items_in, element_in}
use Rattle.obj_read.proofs.Faced.{faced_as}
use Rattle.obj_read.proofs.reader.close_face.Goals as goal

pub returns-in-None : goal.returns-in-None
returns-in-None c = sym (faced_as c.args.page c.args.block c.args.outline c.args.indices.items false (cc (c.in-None.ensures, c.len.ensures, c.len-2.ensures)))

pub returns-in_ok-with_face-in-Some : goal.returns-in_ok-with_face-in-Some
returns-in_ok-with_face-in-Some c =
    let o = c.args.outline in
    let at : List ℕ → Face = λ l. record { plane = numbered_plane o.plane; edges = map numbered_plane o.edges.items; corners = l } in
    ap (λ e. Some (Open c.args.page.grid (items_in c.args.page) e)) (c.in_ok-with_face-in-Some.ensures ∙ ap (λ l. with_face (element_in c.args.block) (at l)) c.in-Some.ensures.1)
    ∙ sym (faced_as c.args.page c.args.block o c.args.indices.items true (cc (c.in-Some.ensures.0, c.len.ensures, c.len-2.ensures)))
