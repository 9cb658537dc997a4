use Rattle.std.proofs.Common.{ℕ, pos, [], ◌∷◌, arith}
use Rattle.std.specs.Prelude.{codes}
use Rattle.spec_refusal.specs.declared.Refusal.TheVariants.{ElementTooLarge}
use Rattle.obj_lines.specs.PageLines.{Refused}
use Rattle.obj_lines.proofs.Forms.{form_none, form_out, form_some}
use Rattle.obj_lines.proofs.RefusalShapes.{element_too_large_form}
use Rattle.obj_lines.proofs.Shorts.{at_place, from_place, pair_list}
use Rattle.obj_lines.proofs.refusals.element_too_large.Goals as goal

pub returns-in_err-found : goal.returns-in_err-found
returns-in_err-found c = rw c.from_residual.ensures (form_none (λ (a : ℕ × ℕ). Refused a.0 (ElementTooLarge a.1)) (codes "#refused @ E9 ElementTooLarge @") 2 (λ (a : ℕ × ℕ). pos a.0 ∷ pos a.1 ∷ []) element_too_large_form c.args.text.now c.in_err-found.ensures)

pub returns-in_err-number : goal.returns-in_err-number
returns-in_err-number c =
    let ns = c.in_ok-found.found in
    let is = c.in_ok-found.ensures in
    rw c.from_residual-in_err-number.ensures
    (form_out (λ (a : ℕ × ℕ). Refused a.0 (ElementTooLarge a.1)) (codes "#refused @ E9 ElementTooLarge @") 2 (λ (a : ℕ × ℕ). pos a.0 ∷ pos a.1 ∷ []) element_too_large_form c.args.text.now ns is (λ a h e. c.in_err-number.ensures a.0 h.0 (at_place (codes "#refused @ E9 ElementTooLarge @") c.args.text.now 2 ns (pos a.0 ∷ pos a.1 ∷ []) 0 (omega arith) is e)))

pub returns-in_err-triangles : goal.returns-in_err-triangles
returns-in_err-triangles c =
    let ns = c.in_ok-found.found in
    let is = c.in_ok-found.ensures in
    rw c.from_residual-in_err-triangles.ensures
    (form_out (λ (a : ℕ × ℕ). Refused a.0 (ElementTooLarge a.1)) (codes "#refused @ E9 ElementTooLarge @") 2 (λ (a : ℕ × ℕ). pos a.0 ∷ pos a.1 ∷ []) element_too_large_form c.args.text.now ns is (λ a h e. c.in_err-triangles.ensures a.1 h.1 (at_place (codes "#refused @ E9 ElementTooLarge @") c.args.text.now 2 ns (pos a.0 ∷ pos a.1 ∷ []) 1 (omega arith) is e)))

pub returns : goal.returns
returns c =
    let ns = c.in_ok-found.found in
    let is = c.in_ok-found.ensures in
    let m = c.in_ok-number.number in
    let n = c.in_ok-triangles.triangles in
    form_some (λ (a : ℕ × ℕ). Refused a.0 (ElementTooLarge a.1)) (codes "#refused @ E9 ElementTooLarge @") 2 (λ (a : ℕ × ℕ). pos a.0 ∷ pos a.1 ∷ []) element_too_large_form c.args.text.now ns is (m, n) (c.in_ok-number.ensures.0, c.in_ok-triangles.ensures.0)
    (pair_list (pos m) (pos n) ns is.words.count_is (from_place (codes "#refused @ E9 ElementTooLarge @") c.args.text.now 2 ns 0 (omega arith) is m c.in_ok-number.ensures.1) (from_place (codes "#refused @ E9 ElementTooLarge @") c.args.text.now 2 ns 1 (omega arith) is n c.in_ok-triangles.ensures.1))
