use Rattle.std.proofs.Common.{◌^◌, ◌-◌}
use Rattle.ifc_curves.proofs.Outlined.{wider_outline}
use Rattle.ifc_geom.proofs.half_spaces.lowered.Goals as goal

pub lifted-requires-clause-loops : goal.lifted-requires-clause-loops
lifted-requires-clause-loops c = (wider_outline {m = 10 ^ 16} {n = 2 ^ 59} c.in_ok-loops.loops c.in_ok-loops.ensures.outline tt).within

pub returns-clause-outline : goal.returns-clause-outline
returns-clause-outline c =
    wider_outline {m = 2 ^ 60} {n = 2 ^ 61 - 1} c.lifted.result
    (c.lifted.ensures.outline (wider_outline {m = 10 ^ 16} {n = 2 ^ 59} c.in_ok-loops.loops c.in_ok-loops.ensures.outline tt)) tt
