use Rattle.std.proofs.Common.{FitsSigned, pos, ◌+◌, ◌*◌, ◌%◌, ◌++◌, ap, ◌∙◌}
use Rattle.std.proofs.lemmas.Int.{to_z-of_z}
use mir.Syntax.{w64}
use Rattle.model_gen.specs.Model.{plain_wall, window}
use Rattle.model_gen.proofs.Texts.{joined_two, on_ok}
use Rattle.model_gen.proofs.blocks.put_wall.Goals as goal

pub returns : goal.returns
returns c =
    let i = c.args.i in
    let n = 100 + 20 * i in
    let old = c.args.page.now.items in
    let x : FitsSigned w64 c.from.result = record { sfits = c.from.type_inv } in
    on_ok c.put_window.result
    (λ e. joined_two old c.put_plain_wall.new.page.items c.put_window.new.page.items (plain_wall n (pos (6000 * i))) (window n (800 + 100 * (i % 5)))
    (c.in_ok-put_plain_wall.ensures ∙ ap (λ k. old ++ plain_wall n k) (to_z-of_z w64 c.from.result x ∙ c.from.ensures)) e)
    c.put_window.ensures
