use Rattle.std.proofs.Common.{◌∙◌}
use Rattle.spec_geometry.specs.Points as points
use Rattle.ifc_numbers.proofs.Ratios.{direction_read}
use Rattle.ifc_numbers.proofs.points.direction.Goals as goal

pub returns : goal.returns
returns c = c.direction_of.ensures ∙ direction_read c.args.at (points.ratios c.args.table.now c.args.at) c.in_ok-found.found c.in_ok-found.ensures.value
