use Rattle.std.proofs.Common.{ℕ, ◌≤◌, ◌+◌, ◌^◌, arith}
use Rattle.integer_laws.proofs.Computed.{arg, again, sum, product, fits}
use Rattle.plane_core.proofs.Sizes.{small}
use Rattle.triangle_planes.proofs.normals.distance.Goals as goal

wider : (n : ℕ) → n ≤ 2 ^ 63 + 2 ^ 63 + 2 ^ 63 → n ≤ 2 ^ 70
wider n h = omega arith

pub overflow_mul-result-3 : goal.overflow_mul-result-3
overflow_mul-result-3 c = fits (product (arg c.args.normal.z c.requires.normal.z tt) (arg c.args.place.z c.requires.place.z tt)) tt

pub overflow_add-result : goal.overflow_add-result
overflow_add-result c =
    let x = again (product (arg c.args.normal.x c.requires.normal.x tt) (arg c.args.place.x c.requires.place.x tt)) tt in
    let y = again (product (arg c.args.normal.y c.requires.normal.y tt) (arg c.args.place.y c.requires.place.y tt)) tt in
    fits (sum x y) tt

pub overflow_add-result-2 : goal.overflow_add-result-2
overflow_add-result-2 c =
    let x = again (product (arg c.args.normal.x c.requires.normal.x tt) (arg c.args.place.x c.requires.place.x tt)) tt in
    let y = again (product (arg c.args.normal.y c.requires.normal.y tt) (arg c.args.place.y c.requires.place.y tt)) tt in
    let z = again (product (arg c.args.normal.z c.requires.normal.z tt) (arg c.args.place.z c.requires.place.z tt)) tt in
    fits (sum (again (sum x y) tt) z) tt

pub returns : goal.returns
returns c =
    let x = again (product (arg c.args.normal.x c.requires.normal.x tt) (arg c.args.place.x c.requires.place.x tt)) tt in
    let y = again (product (arg c.args.normal.y c.requires.normal.y tt) (arg c.args.place.y c.requires.place.y tt)) tt in
    let z = again (product (arg c.args.normal.z c.requires.normal.z tt) (arg c.args.place.z c.requires.place.z tt)) tt in
    let whole = again (sum (again (sum x y) tt) z) tt in
    record { value = whole.is; small = wider _ (small whole) }
