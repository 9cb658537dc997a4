use Rattle.integer_laws.proofs.Computed.{arg, again, difference, product, fits}
use Rattle.face_check.proofs.planes.minor.Goals as goal

pub overflow_sub-result : goal.overflow_sub-result
overflow_sub-result c =
    let ab = again (product (arg c.args.a c.requires.a tt) (arg c.args.b c.requires.b tt)) tt in
    let cd = again (product (arg c.args.c c.requires.c tt) (arg c.args.d c.requires.d tt)) tt in
    fits (difference ab cd) tt

pub returns : goal.returns
returns c =
    let ab = again (product (arg c.args.a c.requires.a tt) (arg c.args.b c.requires.b tt)) tt in
    let cd = again (product (arg c.args.c c.requires.c tt) (arg c.args.d c.requires.d tt)) tt in
    (again (difference ab cd) tt).is
