use Rattle.integer_laws.proofs.Computed.{arg, again, sum, product, fits}
use Rattle.world_print.proofs.Sizes.{number_is, within, dot_is, step_is}
use Rattle.world_print.proofs.coordinate.whole_image.Goals as goal

pub overflow_mul-result : goal.overflow_mul-result
overflow_mul-result c =
    let turned = again (dot_is c.args.row.now c.args.whole.now c.dot.result c.dot.ensures c.requires.row c.requires.whole) tt in
    fits (product turned (again (step_is c.args.step c.from.result c.from.ensures c.requires.step) tt)) tt

pub overflow_add-result : goal.overflow_add-result
overflow_add-result c =
    let turned = again (dot_is c.args.row.now c.args.whole.now c.dot.result c.dot.ensures c.requires.row c.requires.whole) tt in
    let stretched = again (product turned (again (step_is c.args.step c.from.result c.from.ensures c.requires.step) tt)) tt in
    fits (sum stretched (again (product (arg c.args.off c.requires.off tt) (number_is 1000000)) tt)) tt

pub returns-clause-value : goal.returns-clause-value
returns-clause-value c =
    let turned = again (dot_is c.args.row.now c.args.whole.now c.dot.result c.dot.ensures c.requires.row c.requires.whole) tt in
    let stretched = again (product turned (again (step_is c.args.step c.from.result c.from.ensures c.requires.step) tt)) tt in
    (again (sum stretched (again (product (arg c.args.off c.requires.off tt) (number_is 1000000)) tt)) tt).is

pub returns-clause-size : goal.returns-clause-size
returns-clause-size c =
    let turned = again (dot_is c.args.row.now c.args.whole.now c.dot.result c.dot.ensures c.requires.row c.requires.whole) tt in
    let stretched = again (product turned (again (step_is c.args.step c.from.result c.from.ensures c.requires.step) tt)) tt in
    within (again (sum stretched (again (product (arg c.args.off c.requires.off tt) (number_is 1000000)) tt)) tt) tt
