use Rattle.std.proofs.Common.{◌^◌, leb→le}
use Rattle.ix_place.proofs.Sizes.{stepped}
use Rattle.ix_place.proofs.half.location.Goals as goal

pub returns-clause-within : goal.returns-clause-within
returns-clause-within c =
    stepped c.args.m.now.off c.divided.result c.in_steps.result (10 ^ 13) 1000 c.args.step (record { sfits = c.in_steps.type_inv }) c.in_steps.ensures.value
    (leb→le 1 1000 tt) c.requires.low c.divided.ensures c.requires.map.off
