use Rattle.std.proofs.Common.{◌≡◌, ◌∙◌, ℤ, pos, ◌+ℤ◌, ◌*ℤ◌, ◌-ℤ◌, ap, arith}
use Rattle.std.proofs.lemmas.Int.{ints}
use Rattle.integer_laws.proofs.Computed.{arg, again, sum, difference, product, fits}
use Rattle.triangle_trees.proofs.sides.value_at.Goals as goal

once : (d : ℤ) → d ≡ d *ℤ pos 1
once d = omega (arith, ints)

pub overflow_add-result : goal.overflow_add-result
overflow_add-result c =
    let p = c.args.plane.now in
    let ax = again (product (arg p.a p.a_small tt) (arg c.args.place.x c.requires.place.x tt)) tt in
    let by = again (product (arg p.b p.b_small tt) (arg c.args.place.y c.requires.place.y tt)) tt in
    fits (sum ax by) tt

pub overflow_mul-result-3 : goal.overflow_mul-result-3
overflow_mul-result-3 c = fits (product (arg c.args.plane.now.c c.args.plane.now.c_small tt) (arg c.args.place.z c.requires.place.z tt)) tt

pub overflow_add-result-2 : goal.overflow_add-result-2
overflow_add-result-2 c =
    let p = c.args.plane.now in
    let ax = again (product (arg p.a p.a_small tt) (arg c.args.place.x c.requires.place.x tt)) tt in
    let by = again (product (arg p.b p.b_small tt) (arg c.args.place.y c.requires.place.y tt)) tt in
    let cz = again (product (arg p.c p.c_small tt) (arg c.args.place.z c.requires.place.z tt)) tt in
    fits (sum (again (sum ax by) tt) cz) tt

pub overflow_sub-result : goal.overflow_sub-result
overflow_sub-result c =
    let p = c.args.plane.now in
    let ax = again (product (arg p.a p.a_small tt) (arg c.args.place.x c.requires.place.x tt)) tt in
    let by = again (product (arg p.b p.b_small tt) (arg c.args.place.y c.requires.place.y tt)) tt in
    let cz = again (product (arg p.c p.c_small tt) (arg c.args.place.z c.requires.place.z tt)) tt in
    fits (difference (again (sum (again (sum ax by) tt) cz) tt) (arg p.d p.d_small tt)) tt

pub returns : goal.returns
returns c =
    let p = c.args.plane.now in
    let ax = again (product (arg p.a p.a_small tt) (arg c.args.place.x c.requires.place.x tt)) tt in
    let by = again (product (arg p.b p.b_small tt) (arg c.args.place.y c.requires.place.y tt)) tt in
    let cz = again (product (arg p.c p.c_small tt) (arg c.args.place.z c.requires.place.z tt)) tt in
    let whole = again (difference (again (sum (again (sum ax by) tt) cz) tt) (arg p.d p.d_small tt)) tt in
    record { value = whole.is ∙ ap (λ d. p.a *ℤ c.args.place.x +ℤ p.b *ℤ c.args.place.y +ℤ p.c *ℤ c.args.place.z -ℤ d) (once p.d) }
