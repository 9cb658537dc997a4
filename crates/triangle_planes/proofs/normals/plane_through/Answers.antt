use Rattle.std.proofs.Common.{◌∙◌, ap}
use Rattle.spec_space.specs.Points.{dot}
use Rattle.integer_laws.proofs.Computed.{arg, again}
use Rattle.plane_core.proofs.Sizes.{known}
use Rattle.triangle_planes.proofs.normals.plane_through.Goals as goal

pub returns : goal.returns
returns c =
    let a = arg c.args.normal.x c.requires.small.x tt in
    let b = arg c.args.normal.y c.requires.small.y tt in
    let d = arg c.args.normal.z c.requires.small.z tt in
    let e = again (known c.distance.ensures.value c.distance.ensures.small) tt in
    let n = c.requires.normal in
    record {
      value = λ i. record {
        a = (a.is ∙ ap (λ v. v.x) n) i;
        b = (b.is ∙ ap (λ v. v.y) n) i;
        c = (d.is ∙ ap (λ v. v.z) n) i;
        d = (e.is ∙ ap (λ v. dot v c.args.t.now.a) n) i;
      };
    }
