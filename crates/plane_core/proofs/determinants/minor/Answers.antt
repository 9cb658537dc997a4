use Rattle.integer_laws.proofs.Computed.{arg, again, difference, product, fits}
use Rattle.plane_core.proofs.determinants.minor.Goals as goal

pub overflow_sub-result : goal.overflow_sub-result
overflow_sub-result c =
    let ad = again (product (arg c.args.a c.requires.a_small tt) (arg c.args.d c.requires.d_small tt)) tt in
    let bc = again (product (arg c.args.b c.requires.b_small tt) (arg c.args.c c.requires.c_small tt)) tt in
    fits (difference ad bc) tt

pub returns : goal.returns
returns c =
    let ad = again (product (arg c.args.a c.requires.a_small tt) (arg c.args.d c.requires.d_small tt)) tt in
    let bc = again (product (arg c.args.b c.requires.b_small tt) (arg c.args.c c.requires.c_small tt)) tt in
    record { value = (again (difference ad bc) tt).is }
