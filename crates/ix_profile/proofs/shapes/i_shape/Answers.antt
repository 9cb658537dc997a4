use Rattle.std.proofs.Common.{◌≡◌, ◌∙◌, ◌∷◌, [], ap}
use Rattle.std.proofs.lemmas.Result.{IfOk-weaker}
use Rattle.std.proofs.lemmas.Int.{to_z-of_z}
use mir.Syntax.{w128}
use Rattle.spec_shape.specs.Profiles.{i_shape}
use Rattle.ix_profile.proofs.EndLaws.{i_ends}
use Rattle.ix_profile.proofs.shapes.i_shape.Goals as goal

pub returns-clause-value : goal.returns-clause-value
returns-clause-value c =
    let width = to_z-of_z w128 c.args.width c.ranges.width in
    let depth = to_z-of_z w128 c.args.depth c.ranges.depth in
    let web = to_z-of_z w128 c.args.web c.ranges.web in
    let flange = to_z-of_z w128 c.args.flange c.ranges.flange in
    IfOk-weaker c.one_loop.result (λ loops. loops ≡ c.in_ok-i_loop.field-0 ∷ []) (λ loops. loops ≡ i_shape c.args.width c.args.depth c.args.web c.args.flange)
    (λ loops e. e ∙ ap (λ l. l ∷ []) c.in_ok-i_loop.ensures.value
    ∙ i_ends c.args.width c.args.depth c.args.web c.args.flange width depth web flange
    c.centred-x.ensures.lower c.centred-x.ensures.upper c.centred-y.ensures.lower c.centred-y.ensures.upper
    c.centred.ensures.lower c.centred.ensures.upper c.within.ensures.lower c.within.ensures.upper)
    c.one_loop.ensures.value
