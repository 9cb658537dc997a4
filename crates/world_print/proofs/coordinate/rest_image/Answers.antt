use Rattle.integer_laws.proofs.Computed.{again, product, fits}
use Rattle.world_print.proofs.Sizes.{within, dot_is, step_is}
use Rattle.world_print.proofs.coordinate.rest_image.Goals as goal

pub overflow_mul-result : goal.overflow_mul-result
overflow_mul-result c =
    let turned = again (dot_is c.args.row.now c.args.rest.now c.dot.result c.dot.ensures c.requires.row c.requires.rest) tt in
    fits (product turned (again (step_is c.args.step c.from.result c.from.ensures c.requires.step) tt)) tt

pub returns-clause-value : goal.returns-clause-value
returns-clause-value c =
    let turned = again (dot_is c.args.row.now c.args.rest.now c.dot.result c.dot.ensures c.requires.row c.requires.rest) tt in
    (again (product turned (again (step_is c.args.step c.from.result c.from.ensures c.requires.step) tt)) tt).is

pub returns-clause-size : goal.returns-clause-size
returns-clause-size c =
    let turned = again (dot_is c.args.row.now c.args.rest.now c.dot.result c.dot.ensures c.requires.row c.requires.rest) tt in
    within (again (product turned (again (step_is c.args.step c.from.result c.from.ensures c.requires.step) tt)) tt) tt
