use Rattle.std.proofs.Common.{ℤ, [], ◌∷◌, Some, arith}
use Rattle.std.specs.Prelude.{codes}
use Rattle.exact_mesh.specs.Meshes.{number_at}
use Rattle.obj_lines.specs.PageLines.{Volume}
use Rattle.obj_lines.proofs.Forms.{form_none, form_some, list_one}
use Rattle.obj_lines.proofs.Shapes.{some_volume_form, word_volume}
use Rattle.obj_lines.proofs.Signed.{packed}
use Rattle.obj_lines.specs.Readings.{IsLineOf}
use Rattle.obj_lines.proofs.kinds.some_volume.Goals as goal

pub returns-in_err-found : goal.returns-in_err-found
returns-in_err-found c = rw c.from_residual.ensures (form_none (λ (a : ℤ). Volume (Some a)) (codes "#vol6 @") 1 (λ (a : ℤ). a ∷ []) some_volume_form c.args.text.now c.in_err-found.ensures)

pub returns : goal.returns
returns c =
    let ns = c.in_ok-found.found in
    let is = c.in_ok-found.ensures in
    let n = number_at ns 0 in
    let word = is.words.each 0 (omega arith) in
    packed (λ m. IsLineOf c.args.text.now (Volume (Some m))) n word
    (form_some (λ (a : ℤ). Volume (Some a)) (codes "#vol6 @") 1 (λ (a : ℤ). a ∷ []) some_volume_form c.args.text.now ns is n (word_volume n word) (list_one ns is.words.count_is))
