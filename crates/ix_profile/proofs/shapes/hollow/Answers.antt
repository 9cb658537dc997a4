use Rattle.std.proofs.Common.{◌≡◌, ◌∙◌, ◌∷◌, [], ap₂}
use Rattle.std.proofs.lemmas.Result.{IfOk-weaker}
use Rattle.std.proofs.lemmas.Int.{to_z-of_z}
use mir.Syntax.{w128}
use Rattle.spec_shape.specs.Profiles.{hollow}
use Rattle.ix_profile.proofs.EndLaws.{hollow_ends}
use Rattle.ix_profile.proofs.shapes.hollow.Goals as goal

pub returns-clause-value : goal.returns-clause-value
returns-clause-value c =
    let x = to_z-of_z w128 c.args.x c.ranges.x in
    let y = to_z-of_z w128 c.args.y c.ranges.y in
    let wall = to_z-of_z w128 c.args.wall c.ranges.wall in
    IfOk-weaker c.two_loops.result (λ loops. loops ≡ c.in_ok-outer.outer ∷ c.in_ok-between.field-0 ∷ []) (λ loops. loops ≡ hollow c.args.x c.args.y c.args.wall)
    (λ loops e. e ∙ ap₂ (λ l k. l ∷ k ∷ []) c.in_ok-outer.ensures.value c.in_ok-between.ensures.value
    ∙ hollow_ends c.args.x c.args.y c.args.wall x y wall
    c.centred-x.ensures.lower c.centred-x.ensures.upper c.centred-y.ensures.lower c.centred-y.ensures.upper
    c.within.ensures.lower c.within.ensures.upper c.within-2.ensures.lower c.within-2.ensures.upper)
    c.two_loops.ensures.value
