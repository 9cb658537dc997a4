use Rattle.std.proofs.Common.{◌^◌, [], ◌∷◌, to_z, of_z, refl, sym, ◌∙◌, subst}
use Rattle.std.specs.Prelude.{codes}
use Rattle.std.proofs.lemmas.Bool.{true≢false}
use mir.Syntax.{w128}
use Rattle.exact_mesh.specs.Meshes.{number_at, vector_of}
use Rattle.spec_space.specs.declared.Vector.{Vector}
use Rattle.spec_place.specs.Vectors.{IsWithin}
use Rattle.obj_lines.specs.PageLines.{Printed}
use Rattle.obj_lines.proofs.Forms.{form_none, form_out, form_some, list_three, unpacked_three}
use Rattle.obj_lines.proofs.Shapes.{printed_form, one_vector}
use Rattle.obj_lines.proofs.kinds.printed.Goals as goal

pub returns-in_err-found : goal.returns-in_err-found
returns-in_err-found c = rw c.from_residual.ensures (form_none Printed (codes "v ~ ~ ~") 3 (λ (a : Vector). a.x ∷ a.y ∷ a.z ∷ []) printed_form c.args.text.now c.in_err-found.ensures)

pub returns-then-not-is_within : goal.returns-then-not-is_within
returns-then-not-is_within c =
    let ns = c.in_ok-found.found in
    let is = c.in_ok-found.ensures in
    let p : Vector = record { x = to_z w128 (of_z w128 (number_at ns 0)); y = to_z w128 (of_z w128 (number_at ns 1)); z = to_z w128 (of_z w128 (number_at ns 2)) } in
    form_out Printed (codes "v ~ ~ ~") 3 (λ (a : Vector). a.x ∷ a.y ∷ a.z ∷ []) printed_form c.args.text.now ns is (λ a h e. true≢false (sym (c.if-not-is_within.ensures.1 (subst (IsWithin (10 ^ 14)) (one_vector a p (e ∙ sym (unpacked_three ns is.words)) ∙ sym c.vector.ensures) h))))

pub returns : goal.returns
returns c =
    let ns = c.in_ok-found.found in
    let is = c.in_ok-found.ensures in
    let p : Vector = record { x = to_z w128 (of_z w128 (number_at ns 0)); y = to_z w128 (of_z w128 (number_at ns 1)); z = to_z w128 (of_z w128 (number_at ns 2)) } in
    form_some Printed (codes "v ~ ~ ~") 3 (λ (a : Vector). a.x ∷ a.y ∷ a.z ∷ []) printed_form c.args.text.now ns is (vector_of ns)
    (subst (IsWithin (10 ^ 14)) (c.vector.ensures ∙ one_vector p (vector_of ns) (unpacked_three ns is.words ∙ sym (list_three ns is.words.count_is))) (c.if-not-is_within.ensures.0 refl)) (list_three ns is.words.count_is)
