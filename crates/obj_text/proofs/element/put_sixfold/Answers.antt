use Rattle.std.proofs.Common.{[], ◌∷◌, FitsSigned, codes}
use Rattle.std.proofs.lemmas.Int.{to_z-of_z}
use mir.Syntax.{w128}
use Rattle.spec_page.specs.Lines.{spaced}
use Rattle.world_print.proofs.Appended.{refused, begun_three, one_more, stopped_in}
use Rattle.obj_text.proofs.element.put_sixfold.Goals as goal

pub returns-in_err-put_spaced : goal.returns-in_err-put_spaced
returns-in_err-put_spaced c =
    let six : FitsSigned w128 c.args.six = c.ranges.six in
    refused c.from_residual-in_err-put_spaced.result c.from_residual-in_err-put_spaced.ensures.0
    (stopped_in (spaced c.args.six) (10 ∷ [])
    (one_more (codes "#vol6") (begun_three (codes "#vol6") (spaced c.args.six) (10 ∷ [])) c.in_ok-extend_from_slice.ensures.items)
    (simp to_z-of_z at c.in_err-put_spaced.ensures))
