use Rattle.std.proofs.Common.{◌^◌, ◌*◌, ◌-◌}
use Rattle.integer_laws.proofs.Computed.{arg, again, product}
use Rattle.ix_profile.proofs.Small.{small, rounded_is}
use Rattle.ifc_geom.proofs.primitives.part_over.Goals as goal

pub round_div-requires-clause-size : goal.round_div-requires-clause-size
round_div-requires-clause-size c = small (again (product (arg c.args.depth c.requires.depth tt) (arg c.args.part c.requires.part tt)) tt) (2 ^ 125) tt

pub returns-clause-value : goal.returns-clause-value
returns-clause-value c =
    let all = again (product (arg c.args.depth c.requires.depth tt) (arg c.args.part c.requires.part tt)) tt in
    (again (rounded_is (10 ^ 16) c.round_div.ensures.value all tt) tt).is

pub returns-clause-within : goal.returns-clause-within
returns-clause-within c =
    let all = again (product (arg c.args.depth c.requires.depth tt) (arg c.args.part c.requires.part tt)) tt in
    small (again (rounded_is (10 ^ 16) c.round_div.ensures.value all tt) tt) (2 ^ 61 - 1) tt
