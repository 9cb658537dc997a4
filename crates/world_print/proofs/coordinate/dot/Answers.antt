use Rattle.integer_laws.proofs.Computed.{arg, again, sum, product, fits}
use Rattle.world_print.proofs.coordinate.dot.Goals as goal

pub overflow_add-result : goal.overflow_add-result
overflow_add-result c =
    let along_x = again (product (arg c.args.row.now.x c.requires.row.x tt) (arg c.args.v.now.x c.requires.vector.x tt)) tt in
    let along_y = again (product (arg c.args.row.now.y c.requires.row.y tt) (arg c.args.v.now.y c.requires.vector.y tt)) tt in
    fits (sum along_x along_y) tt

pub overflow_mul-result-3 : goal.overflow_mul-result-3
overflow_mul-result-3 c = fits (product (arg c.args.row.now.z c.requires.row.z tt) (arg c.args.v.now.z c.requires.vector.z tt)) tt

pub overflow_add-result-2 : goal.overflow_add-result-2
overflow_add-result-2 c =
    let along_x = again (product (arg c.args.row.now.x c.requires.row.x tt) (arg c.args.v.now.x c.requires.vector.x tt)) tt in
    let along_y = again (product (arg c.args.row.now.y c.requires.row.y tt) (arg c.args.v.now.y c.requires.vector.y tt)) tt in
    let along_z = again (product (arg c.args.row.now.z c.requires.row.z tt) (arg c.args.v.now.z c.requires.vector.z tt)) tt in
    fits (sum (again (sum along_x along_y) tt) along_z) tt

pub returns : goal.returns
returns c =
    let along_x = again (product (arg c.args.row.now.x c.requires.row.x tt) (arg c.args.v.now.x c.requires.vector.x tt)) tt in
    let along_y = again (product (arg c.args.row.now.y c.requires.row.y tt) (arg c.args.v.now.y c.requires.vector.y tt)) tt in
    let along_z = again (product (arg c.args.row.now.z c.requires.row.z tt) (arg c.args.v.now.z c.requires.vector.z tt)) tt in
    (again (sum (again (sum along_x along_y) tt) along_z) tt).is
