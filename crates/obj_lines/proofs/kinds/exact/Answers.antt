use Rattle.std.proofs.Common.{[], ◌∷◌, to_z, of_z, sym, ap, ◌∙◌, subst}
use Rattle.std.specs.Prelude.{codes}
use mir.Syntax.{w128}
use Rattle.exact_mesh.specs.Meshes.{number_at}
use Rattle.spec_space.specs.declared.Point.{Point}
use Rattle.spec_headline.specs.Reduced.{IsExactCorner}
use Rattle.plane_core.specs.Views.{point_of}
use Rattle.obj_lines.specs.PageLines.{Exact}
use Rattle.obj_lines.proofs.Forms.{form_none, form_out, form_some, unpacked_four}
use Rattle.obj_lines.proofs.Shapes.{exact_form, one_point}
use Rattle.obj_lines.proofs.kinds.exact.Goals as goal

pub returns-in_err-found : goal.returns-in_err-found
returns-in_err-found c = rw c.from_residual.ensures (form_none Exact (codes "#c @ @ @ @") 4 (λ (a : Point). a.x ∷ a.y ∷ a.z ∷ a.w ∷ []) exact_form c.args.text.now c.in_err-found.ensures)

pub returns-in_err-corner : goal.returns-in_err-corner
returns-in_err-corner c =
    let ns = c.in_ok-found.found in
    let is = c.in_ok-found.ensures in
    let p : Point = record { x = to_z w128 (of_z w128 (number_at ns 0)); y = to_z w128 (of_z w128 (number_at ns 1)); z = to_z w128 (of_z w128 (number_at ns 2)); w = to_z w128 (of_z w128 (number_at ns 3)) } in
    rw c.from_residual-in_err-corner.ensures
    (form_out Exact (codes "#c @ @ @ @") 4 (λ (a : Point). a.x ∷ a.y ∷ a.z ∷ a.w ∷ []) exact_form c.args.text.now ns is (λ a h e. c.in_err-corner.ensures (subst IsExactCorner (one_point a p (e ∙ sym (unpacked_four ns is.words))) h)))

pub returns : goal.returns
returns c =
    let ns = c.in_ok-found.found in
    let is = c.in_ok-found.ensures in
    let corner = c.in_ok-corner.corner in
    form_some Exact (codes "#c @ @ @ @") 4 (λ (a : Point). a.x ∷ a.y ∷ a.z ∷ a.w ∷ []) exact_form c.args.text.now ns is (point_of corner) c.in_ok-corner.ensures.0
    (ap (λ (q : Point). q.x ∷ q.y ∷ q.z ∷ q.w ∷ []) c.in_ok-corner.ensures.1 ∙ unpacked_four ns is.words)
