use Rattle.integer_laws.proofs.Computed.{arg, again, difference, product, fits}
use Rattle.plane_core.proofs.Sizes.{small}
use Rattle.triangle_planes.proofs.normals.minor.Goals as goal

pub overflow_sub-result : goal.overflow_sub-result
overflow_sub-result c =
    let first = again (product (arg c.args.a c.requires.a tt) (arg c.args.d c.requires.d tt)) tt in
    let second = again (product (arg c.args.b c.requires.b tt) (arg c.args.c c.requires.c tt)) tt in
    fits (difference first second) tt

pub returns : goal.returns
returns c =
    let first = again (product (arg c.args.a c.requires.a tt) (arg c.args.d c.requires.d tt)) tt in
    let second = again (product (arg c.args.b c.requires.b tt) (arg c.args.c c.requires.c tt)) tt in
    let whole = again (difference first second) tt in
    record { value = whole.is; small = small whole }
