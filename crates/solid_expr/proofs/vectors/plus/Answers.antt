use Rattle.std.proofs.Common.{◌≡◌}
use Rattle.integer_laws.proofs.Computed.{arg, again, sum}
use Rattle.solid_expr.proofs.vectors.plus.Goals as goal

pub returns : goal.returns
returns c =
    let x = again (sum (arg c.args.u.now.x c.requires.first.x tt) (arg c.args.v.now.x c.requires.second.x tt)) tt in
    let y = again (sum (arg c.args.u.now.y c.requires.first.y tt) (arg c.args.v.now.y c.requires.second.y tt)) tt in
    let z = again (sum (arg c.args.u.now.z c.requires.first.z tt) (arg c.args.v.now.z c.requires.second.z tt)) tt in
    λ i. record { x = x.is i; y = y.is i; z = z.is i }
