use Rattle.std.proofs.Common.{◌∙◌, ◌≤◌, ◌^◌, ap₂, sym, subst, unsigned_abs, FitsSigned}
use Rattle.std.specs.Int.{int_div_euclid}
use Rattle.std.proofs.lemmas.Int.{to_z-of_z}
use mir.Syntax.{w128}
use Rattle.world_print.proofs.Floors.{whole_within}
use Rattle.world_print.proofs.image.split.Goals as goal

pub returns-clause-whole : goal.returns-clause-whole
returns-clause-whole c =
    let answer : FitsSigned w128 c.div_euclid.result = record { sfits = c.div_euclid.type_inv } in
    subst (λ n. unsigned_abs n ≤ 2 ^ 20)
    (sym (to_z-of_z w128 c.div_euclid.result answer ∙ c.div_euclid.ensures ∙ ap₂ int_div_euclid (to_z-of_z w128 c.args.x c.ranges.x) (to_z-of_z w128 c.args.weight c.ranges.weight)))
    (whole_within c.args.x c.args.weight (2 ^ 20) c.requires.positive c.requires.reach)
