use Rattle.std.proofs.Common.{ℕ, pos, [], ◌∷◌, sym, ap, ◌∙◌, arith}
use Rattle.std.specs.Prelude.{codes}
use Rattle.exact_mesh.specs.Meshes.{number_at}
use Rattle.obj_lines.specs.PageLines.{Grid}
use Rattle.obj_lines.proofs.Forms.{form_none, form_out, form_some, unpack, list_one}
use Rattle.obj_lines.proofs.Shapes.{grid_form}
use Rattle.obj_lines.proofs.kinds.grid_line.Goals as goal

pub returns-in_err-found : goal.returns-in_err-found
returns-in_err-found c = rw c.from_residual.ensures (form_none Grid (codes "# grid @") 1 (λ (a : ℕ). pos a ∷ []) grid_form c.args.text.now c.in_err-found.ensures)

pub returns-in_err-grid : goal.returns-in_err-grid
returns-in_err-grid c =
    let ns = c.in_ok-found.found in
    let is = c.in_ok-found.ensures in
    rw c.from_residual-in_err-grid.ensures
    (form_out Grid (codes "# grid @") 1 (λ (a : ℕ). pos a ∷ []) grid_form c.args.text.now ns is (λ a h e. c.in_err-grid.ensures a h (ap (λ l. number_at l 0) e ∙ sym (unpack (number_at ns 0) (is.words.each 0 (omega arith))))))

pub returns : goal.returns
returns c =
    let ns = c.in_ok-found.found in
    let is = c.in_ok-found.ensures in
    let n = c.in_ok-grid.grid in
    form_some Grid (codes "# grid @") 1 (λ (a : ℕ). pos a ∷ []) grid_form c.args.text.now ns is n c.in_ok-grid.ensures.0
    (ap (λ x. x ∷ []) (c.in_ok-grid.ensures.1 ∙ unpack (number_at ns 0) (is.words.each 0 (omega arith))) ∙ list_one ns is.words.count_is)
