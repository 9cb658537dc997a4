use Rattle.std.proofs.Common.{◌∙◌, ap, pos, FitsSigned}
use Rattle.std.specs.Int.{int_div_euclid}
use Rattle.std.proofs.lemmas.Int.{to_z-of_z}
use mir.Syntax.{w128}
use Rattle.integer_laws.proofs.Computed.{arg, again, sum, product, fits}
use Rattle.world_print.proofs.Images.{rounded_by_parts}
use Rattle.world_print.proofs.Sizes.{number_is, parts_is}
use Rattle.world_print.proofs.coordinate.rounded.Goals as goal

pub overflow_add-parts-2 : goal.overflow_add-parts-2
overflow_add-parts-2 c =
    let twice = again (product (number_is 2) (arg c.args.whole c.requires.whole tt)) tt in
    let parts = parts_is c.args.rest c.args.weight c.div_euclid.result _ _ c.div_euclid.ensures (again (product (number_is 2) (arg c.args.rest c.requires.rest tt)) tt).is
    (arg c.args.weight c.requires.weight tt).is c.requires.positive c.requires.rest in
    fits (sum (again (sum twice (number_is 1000000000)) tt) (again parts tt)) tt

pub returns : goal.returns
returns c =
    let twice = again (product (number_is 2) (arg c.args.whole c.requires.whole tt)) tt in
    let parts = parts_is c.args.rest c.args.weight c.div_euclid.result _ _ c.div_euclid.ensures (again (product (number_is 2) (arg c.args.rest c.requires.rest tt)) tt).is
    (arg c.args.weight c.requires.weight tt).is c.requires.positive c.requires.rest in
    let all = again (sum (again (sum twice (number_is 1000000000)) tt) (again parts tt)) tt in
    let answer : FitsSigned w128 c.div_euclid-2.result = record { sfits = c.div_euclid-2.type_inv } in
    to_z-of_z w128 c.div_euclid-2.result answer ∙ c.div_euclid-2.ensures ∙ ap (λ n. int_div_euclid n (pos 2000000000)) all.is
    ∙ rounded_by_parts c.args.whole c.args.rest c.args.weight c.requires.positive
