use Rattle.integer_laws.proofs.Computed.{arg, again, sum, difference, product, fits}
use Rattle.face_check.proofs.planes.value.Goals as goal

pub overflow_add-result : goal.overflow_add-result
overflow_add-result c =
    let ax = again (product (arg c.args.plane.now.a c.requires.a tt) (arg c.args.corner.now.x c.args.corner.now.x_small tt)) tt in
    let by = again (product (arg c.args.plane.now.b c.requires.b tt) (arg c.args.corner.now.y c.args.corner.now.y_small tt)) tt in
    fits (sum ax by) tt

pub overflow_mul-result-3 : goal.overflow_mul-result-3
overflow_mul-result-3 c =
    fits (product (arg c.args.plane.now.c c.requires.c tt) (arg c.args.corner.now.z c.args.corner.now.z_small tt)) tt

pub overflow_mul-result-4 : goal.overflow_mul-result-4
overflow_mul-result-4 c =
    fits (product (arg c.args.plane.now.d c.requires.d tt) (arg c.args.corner.now.w c.args.corner.now.w_small tt)) tt

pub overflow_add-result-2 : goal.overflow_add-result-2
overflow_add-result-2 c =
    let ax = again (product (arg c.args.plane.now.a c.requires.a tt) (arg c.args.corner.now.x c.args.corner.now.x_small tt)) tt in
    let by = again (product (arg c.args.plane.now.b c.requires.b tt) (arg c.args.corner.now.y c.args.corner.now.y_small tt)) tt in
    let cz = again (product (arg c.args.plane.now.c c.requires.c tt) (arg c.args.corner.now.z c.args.corner.now.z_small tt)) tt in
    fits (sum (again (sum ax by) tt) cz) tt

pub overflow_sub-result : goal.overflow_sub-result
overflow_sub-result c =
    let ax = again (product (arg c.args.plane.now.a c.requires.a tt) (arg c.args.corner.now.x c.args.corner.now.x_small tt)) tt in
    let by = again (product (arg c.args.plane.now.b c.requires.b tt) (arg c.args.corner.now.y c.args.corner.now.y_small tt)) tt in
    let cz = again (product (arg c.args.plane.now.c c.requires.c tt) (arg c.args.corner.now.z c.args.corner.now.z_small tt)) tt in
    let dw = again (product (arg c.args.plane.now.d c.requires.d tt) (arg c.args.corner.now.w c.args.corner.now.w_small tt)) tt in
    fits (difference (again (sum (again (sum ax by) tt) cz) tt) dw) tt

pub returns : goal.returns
returns c =
    let ax = again (product (arg c.args.plane.now.a c.requires.a tt) (arg c.args.corner.now.x c.args.corner.now.x_small tt)) tt in
    let by = again (product (arg c.args.plane.now.b c.requires.b tt) (arg c.args.corner.now.y c.args.corner.now.y_small tt)) tt in
    let cz = again (product (arg c.args.plane.now.c c.requires.c tt) (arg c.args.corner.now.z c.args.corner.now.z_small tt)) tt in
    let dw = again (product (arg c.args.plane.now.d c.requires.d tt) (arg c.args.corner.now.w c.args.corner.now.w_small tt)) tt in
    (again (difference (again (sum (again (sum ax by) tt) cz) tt) dw) tt).is
