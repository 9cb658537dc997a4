use Rattle.std.proofs.Common.{sym}
use Rattle.grid_solid.specs.Triangles.{triangle_of}
use Rattle.grid_round.proofs.Fitting.{upright_fits, reduced_fits, lacking_fits_not}
use Rattle.grid_round.proofs.planes.is_triangle_fitting.Goals as goal

pub returns-in-TooLarge : goal.returns-in-TooLarge
returns-in-TooLarge c = sym (lacking_fits_not (triangle_of c.args.triangle.now) c.in-TooLarge.ensures.forms)

pub returns-in-Upright : goal.returns-in-Upright
returns-in-Upright c = sym (upright_fits (triangle_of c.args.triangle.now) c.in-Upright.ensures.forms)

pub returns-in-Reduced : goal.returns-in-Reduced
returns-in-Reduced c = sym (reduced_fits (triangle_of c.args.triangle.now) c.in-Reduced.field-0 c.in-Reduced.ensures.forms)
