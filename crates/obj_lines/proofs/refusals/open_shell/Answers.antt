use Rattle.std.proofs.Common.{◌^◌, ℕ, to_z, of_z, refl, sym, subst, ◌∙◌, arith}
use Rattle.std.specs.Prelude.{codes}
use Rattle.std.proofs.lemmas.Bool.{true≢false}
use mir.Syntax.{w128}
use Rattle.exact_mesh.specs.Meshes.{number_at}
use Rattle.spec_space.specs.declared.Vector.{Vector}
use Rattle.spec_place.specs.Vectors.{IsWithin}
use Rattle.spec_refusal.specs.declared.Refusal.TheVariants.{OpenShell}
use Rattle.obj_lines.specs.PageLines.{Refused}
use Rattle.obj_lines.proofs.Forms.{form_none, form_out, form_some}
use Rattle.obj_lines.proofs.RefusalShapes.{open_shell_form, open_numbers}
use Rattle.obj_lines.proofs.Shorts.{at_place, vector_at, open_list}
use Rattle.obj_lines.proofs.refusals.open_shell.Goals as goal

pub returns-in_err-found : goal.returns-in_err-found
returns-in_err-found c = rw c.from_residual.ensures (form_none (λ (a : ℕ × ℕ × Vector × Vector). Refused a.0 (OpenShell a.1 a.2 a.3)) (codes "#refused @ E11 OpenShell #@ @,@,@ @,@,@") 8 (λ (a : ℕ × ℕ × Vector × Vector). open_numbers a) open_shell_form c.args.text.now c.in_err-found.ensures)

pub returns-in_err-number : goal.returns-in_err-number
returns-in_err-number c =
    let ns = c.in_ok-found.found in
    let is = c.in_ok-found.ensures in
    rw c.from_residual-in_err-number.ensures
    (form_out (λ (a : ℕ × ℕ × Vector × Vector). Refused a.0 (OpenShell a.1 a.2 a.3)) (codes "#refused @ E11 OpenShell #@ @,@,@ @,@,@") 8 (λ (a : ℕ × ℕ × Vector × Vector). open_numbers a) open_shell_form c.args.text.now ns is (λ a h e. c.in_err-number.ensures a.0 h.0 (at_place (codes "#refused @ E11 OpenShell #@ @,@,@ @,@,@") c.args.text.now 8 ns (open_numbers a) 0 (omega arith) is e)))

pub returns-in_err-at : goal.returns-in_err-at
returns-in_err-at c =
    let ns = c.in_ok-found.found in
    let is = c.in_ok-found.ensures in
    rw c.from_residual-in_err-at.ensures
    (form_out (λ (a : ℕ × ℕ × Vector × Vector). Refused a.0 (OpenShell a.1 a.2 a.3)) (codes "#refused @ E11 OpenShell #@ @,@,@ @,@,@") 8 (λ (a : ℕ × ℕ × Vector × Vector). open_numbers a) open_shell_form c.args.text.now ns is (λ a h e. c.in_err-at.ensures a.1 h.1.0 (at_place (codes "#refused @ E11 OpenShell #@ @,@,@ @,@,@") c.args.text.now 8 ns (open_numbers a) 1 (omega arith) is e)))

pub returns-then-not-is_within : goal.returns-then-not-is_within
returns-then-not-is_within c =
    let ns = c.in_ok-found.found in
    let is = c.in_ok-found.ensures in
    let p : Vector = record { x = to_z w128 (of_z w128 (number_at ns 2)); y = to_z w128 (of_z w128 (number_at ns 3)); z = to_z w128 (of_z w128 (number_at ns 4)) } in
    form_out (λ (a : ℕ × ℕ × Vector × Vector). Refused a.0 (OpenShell a.1 a.2 a.3)) (codes "#refused @ E11 OpenShell #@ @,@,@ @,@,@") 8 (λ (a : ℕ × ℕ × Vector × Vector). open_numbers a) open_shell_form c.args.text.now ns is (λ a h e.
    let same = vector_at (codes "#refused @ E11 OpenShell #@ @,@,@ @,@,@") c.args.text.now 8 ns (open_numbers a) 2 (omega arith) is e in
    true≢false (sym (c.if-not-is_within.ensures.1 (subst (IsWithin (2 ^ 20)) (same ∙ sym c.vector-from.ensures) h.1.1))))

pub returns-then-not-is_within-2 : goal.returns-then-not-is_within-2
returns-then-not-is_within-2 c =
    let ns = c.in_ok-found.found in
    let is = c.in_ok-found.ensures in
    let q : Vector = record { x = to_z w128 (of_z w128 (number_at ns 5)); y = to_z w128 (of_z w128 (number_at ns 6)); z = to_z w128 (of_z w128 (number_at ns 7)) } in
    form_out (λ (a : ℕ × ℕ × Vector × Vector). Refused a.0 (OpenShell a.1 a.2 a.3)) (codes "#refused @ E11 OpenShell #@ @,@,@ @,@,@") 8 (λ (a : ℕ × ℕ × Vector × Vector). open_numbers a) open_shell_form c.args.text.now ns is (λ a h e.
    let same = vector_at (codes "#refused @ E11 OpenShell #@ @,@,@ @,@,@") c.args.text.now 8 ns (open_numbers a) 5 (omega arith) is e in
    true≢false (sym (c.if-not-is_within-2.ensures.1 (subst (IsWithin (2 ^ 20)) (same ∙ sym c.vector-to.ensures) h.1.2))))

pub returns : goal.returns
returns c =
    let ns = c.in_ok-found.found in
    let is = c.in_ok-found.ensures in
    let m = c.in_ok-number.number in
    let at = c.in_ok-at.at in
    form_some (λ (a : ℕ × ℕ × Vector × Vector). Refused a.0 (OpenShell a.1 a.2 a.3)) (codes "#refused @ E11 OpenShell #@ @,@,@ @,@,@") 8 (λ (a : ℕ × ℕ × Vector × Vector). open_numbers a) open_shell_form c.args.text.now ns is (m, at, c.vector-from.result, c.vector-to.result)
    (c.in_ok-number.ensures.0, (c.in_ok-at.ensures.0, c.if-not-is_within.ensures.0 refl, c.if-not-is_within-2.ensures.0 refl))
    (open_list (codes "#refused @ E11 OpenShell #@ @,@,@ @,@,@") c.args.text.now ns is m at c.vector-from.result c.vector-to.result c.in_ok-number.ensures.1 c.in_ok-at.ensures.1 c.vector-from.ensures c.vector-to.ensures)
