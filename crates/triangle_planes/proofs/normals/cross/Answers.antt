use Rattle.integer_laws.proofs.Computed.{arg, again, difference, product}
use Rattle.plane_core.proofs.Sizes.{after, small}
use Rattle.triangle_planes.proofs.normals.cross.Goals as goal

pub returns : goal.returns
returns c =
    let ux = arg c.args.u.x c.requires.u.x tt in
    let uy = arg c.args.u.y c.requires.u.y tt in
    let uz = arg c.args.u.z c.requires.u.z tt in
    let vx = arg c.args.v.x c.requires.v.x tt in
    let vy = arg c.args.v.y c.requires.v.y tt in
    let vz = arg c.args.v.z c.requires.v.z tt in
    let x = again (after c.minor.ensures.value (difference (product uy vz) (product uz vy))) tt in
    let y = again (after c.minor-2.ensures.value (difference (product uz vx) (product ux vz))) tt in
    let z = again (after c.minor-3.ensures.value (difference (product ux vy) (product uy vx))) tt in
    record {
      value = λ i. record { x = x.is i; y = y.is i; z = z.is i };
      small = record { x = small x; y = small y; z = small z };
    }
