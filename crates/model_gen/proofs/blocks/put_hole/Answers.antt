use Rattle.std.proofs.Common.{FitsSigned, ◌+◌, ◌*◌, ◌++◌, ap₂, ◌∙◌}
use Rattle.std.proofs.lemmas.Int.{to_z-of_z}
use mir.Syntax.{w64}
use Rattle.model_gen.specs.Model.{hole_at}
use Rattle.model_gen.proofs.Texts.{on_ok}
use Rattle.model_gen.proofs.blocks.put_hole.Goals as goal

pub returns : goal.returns
returns c =
    let x : FitsSigned w64 c.metres_from.result = record { sfits = c.metres_from.type_inv } in
    let y : FitsSigned w64 c.metres_from-2.result = record { sfits = c.metres_from-2.type_inv } in
    on_ok c.put_hole_at.result
    (λ e. e ∙ ap₂ (λ u v. c.args.page.now.items ++ hole_at (10100 + 10 * c.args.i) u v)
    (to_z-of_z w64 c.metres_from.result x ∙ c.metres_from.ensures) (to_z-of_z w64 c.metres_from-2.result y ∙ c.metres_from-2.ensures))
    c.put_hole_at.ensures
