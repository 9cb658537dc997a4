use Rattle.std.proofs.Common.{◌^◌, ◌*◌, ◌-◌}
use Rattle.ifc_curves.proofs.Outlined.{wider_outline}
use Rattle.ifc_geom.proofs.primitives.swept_faces.Goals as goal

pub prism_faces-requires-clause-loops : goal.prism_faces-requires-clause-loops
prism_faces-requires-clause-loops c = wider_outline {m = 3 * 10 ^ 16} {n = 2 ^ 61 - 1} c.args.loops.now c.requires.outline tt
