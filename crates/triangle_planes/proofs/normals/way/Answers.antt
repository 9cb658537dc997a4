use Rattle.integer_laws.proofs.Computed.{arg, again, difference}
use Rattle.plane_core.proofs.Sizes.{small}
use Rattle.triangle_planes.proofs.normals.way.Goals as goal

pub returns : goal.returns
returns c =
    let x = again (difference (arg c.args.to.x c.requires.to.x tt) (arg c.args.from.x c.requires.from.x tt)) tt in
    let y = again (difference (arg c.args.to.y c.requires.to.y tt) (arg c.args.from.y c.requires.from.y tt)) tt in
    let z = again (difference (arg c.args.to.z c.requires.to.z tt) (arg c.args.from.z c.requires.from.z tt)) tt in
    record {
      value = λ i. record { x = x.is i; y = y.is i; z = z.is i };
      small = record { x = small x; y = small y; z = small z };
    }
