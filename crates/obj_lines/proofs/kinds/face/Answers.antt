use Rattle.std.proofs.Common.{[], ◌∷◌, to_z, of_z, refl, sym, ◌∙◌, subst}
use Rattle.std.specs.Prelude.{codes}
use Rattle.std.proofs.lemmas.Bool.{true≢false}
use mir.Syntax.{w128}
use Rattle.exact_mesh.specs.Meshes.{number_at, numbered_plane}
use Rattle.spec_space.specs.declared.Plane.{Plane}
use Rattle.spec_headline.specs.Reduced.{IsPrintedPlane}
use Rattle.obj_lines.specs.PageLines.{Face}
use Rattle.obj_lines.proofs.Forms.{form_none, form_out, form_some, list_four, unpacked_four}
use Rattle.obj_lines.proofs.Shapes.{face_form, one_plane}
use Rattle.obj_lines.proofs.kinds.face.Goals as goal

pub returns-in_err-found : goal.returns-in_err-found
returns-in_err-found c = rw c.from_residual.ensures (form_none Face (codes "#p @ @ @ @") 4 (λ (a : Plane). a.a ∷ a.b ∷ a.c ∷ a.d ∷ []) face_form c.args.text.now c.in_err-found.ensures)

pub returns-then-not-is_plane : goal.returns-then-not-is_plane
returns-then-not-is_plane c =
    let ns = c.in_ok-found.found in
    let is = c.in_ok-found.ensures in
    let p : Plane = record { a = to_z w128 (of_z w128 (number_at ns 0)); b = to_z w128 (of_z w128 (number_at ns 1)); c = to_z w128 (of_z w128 (number_at ns 2)); d = to_z w128 (of_z w128 (number_at ns 3)) } in
    form_out Face (codes "#p @ @ @ @") 4 (λ (a : Plane). a.a ∷ a.b ∷ a.c ∷ a.d ∷ []) face_form c.args.text.now ns is (λ a h e. true≢false (sym (c.if-not-is_plane.ensures.1 (subst IsPrintedPlane (one_plane a p (e ∙ sym (unpacked_four ns is.words))) h))))

pub returns : goal.returns
returns c =
    let ns = c.in_ok-found.found in
    let is = c.in_ok-found.ensures in
    let p : Plane = record { a = to_z w128 (of_z w128 (number_at ns 0)); b = to_z w128 (of_z w128 (number_at ns 1)); c = to_z w128 (of_z w128 (number_at ns 2)); d = to_z w128 (of_z w128 (number_at ns 3)) } in
    form_some Face (codes "#p @ @ @ @") 4 (λ (a : Plane). a.a ∷ a.b ∷ a.c ∷ a.d ∷ []) face_form c.args.text.now ns is (numbered_plane ns) (subst IsPrintedPlane (one_plane p (numbered_plane ns) (unpacked_four ns is.words ∙ sym (list_four ns is.words.count_is))) (c.if-not-is_plane.ensures.0 refl)) (list_four ns is.words.count_is)
