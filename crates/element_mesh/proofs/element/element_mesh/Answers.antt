use Rattle.grid_solid.specs.Bodies.{body_of}
use Rattle.element_mesh.proofs.Made.{surface_on_grid, surface_places, printed}
use Rattle.element_mesh.proofs.element.element_mesh.Goals as goal

pub finish-requires-clause-reach : goal.finish-requires-clause-reach
finish-requires-clause-reach c = surface_on_grid (body_of c.args.solid.now) c.in_ok-mesh.mesh c.in_ok-mesh.ensures

pub finish-requires-clause-places : goal.finish-requires-clause-places
finish-requires-clause-places c = surface_places (body_of c.args.solid.now) c.in_ok-mesh.mesh c.in_ok-mesh.ensures

pub returns-clause-print : goal.returns-clause-print
returns-clause-print c =
    printed c.args.solid.now c.args.number c.args.kind c.args.frame c.args.step c.in_ok-mesh.mesh c.in_ok-mesh.ensures c.finish.result c.finish.ensures.kept c.finish.ensures.rounded c.finish.ensures.frame c.finish.ensures.corners c.finish.ensures.volume
