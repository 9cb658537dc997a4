use Rattle.solid_expr.specs.Views.{element_of}
use Rattle.grid_round.proofs.ElementLaws.{rounded_has_few}
use Rattle.grid_round.proofs.element.round_solid.Goals as goal

pub returns-clause-few : goal.returns-clause-few
returns-clause-few c = rounded_has_few c.args.step (element_of c.args.element.now) c.rounded.result c.rounded.ensures
