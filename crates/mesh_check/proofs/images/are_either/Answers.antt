use Rattle.std.proofs.Common.{◌∙◌}
use Rattle.mesh_check.proofs.Nearest.{by_third, by_second}
use Rattle.mesh_check.proofs.images.are_either.Goals as goal

pub returns-then-is_either : goal.returns-then-is_either
returns-then-is_either c =
    by_third c.is_either.result c.is_either-2.result c.is_either-then-is_either.result _ _ _ c.if-not-is_either.false c.if-is_either.true
    c.is_either.ensures c.is_either-2.ensures c.is_either-then-is_either.ensures

pub returns-else-is_either : goal.returns-else-is_either
returns-else-is_either c =
    c.if-is_either.false ∙ by_second c.is_either.result c.is_either-2.result _ _ _ c.if-not-is_either.false c.if-is_either.false c.is_either.ensures c.is_either-2.ensures
