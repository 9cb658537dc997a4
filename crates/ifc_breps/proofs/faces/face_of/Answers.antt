use Rattle.std.proofs.Common.{◌^◌, ◌-◌}
use Rattle.ifc_curves.proofs.Outlined.{wider_outline}
use Rattle.ifc_breps.proofs.faces.face_of.Goals as goal

pub invariant_of-result : goal.invariant_of-result
invariant_of-result c = wider_outline {m = 10 ^ 16} {n = 2 ^ 62 - 1} c.args.loops c.requires tt
