use Rattle.std.proofs.Common.{◌≡◌, ◌∙◌, ◌≤◌, ◌*ℤ◌, ◌-ℤ◌, ℤ, pos, neg_ℤ, unsigned_abs, refl, ap, arith}
use Rattle.std.proofs.lemmas.Int.{ints}
use Rattle.integer_laws.proofs.Computed.{Is, arg, again, difference, product}
use Rattle.plane_core.proofs.Sizes.{after}
use Rattle.triangle_planes.proofs.normals.upright_plane.Goals as goal

nothing : Is (pos 0) (pos 0) 0
nothing = record { is = refl; size = omega (arith, ints) }

turned : (x : ℤ) → pos 0 -ℤ x ≡ neg_ℤ x
turned x = omega (arith, ints)

pub returns : goal.returns
returns c =
    let way = c.way-way.result in
    let is = c.way-way.ensures.value in
    let x = arg way.x c.way-way.ensures.small.x tt in
    let y = arg way.y c.way-way.ensures.small.y tt in
    let ux = arg c.args.u.x c.requires.u.x tt in
    let uy = arg c.args.u.y c.requires.u.y tt in
    let b = again (difference nothing x) tt in
    let d = again (after c.minor.ensures.value (difference (product y ux) (product x uy))) tt in
    record {
      value = λ i. record {
        a = (y.is ∙ ap (λ v. v.y) is) i;
        b = (b.is ∙ turned way.x ∙ ap (λ v. neg_ℤ v.x) is) i;
        c = pos 0;
        d = (d.is ∙ ap (λ v. v.y *ℤ c.args.u.x -ℤ v.x *ℤ c.args.u.y) is) i;
      };
    }
