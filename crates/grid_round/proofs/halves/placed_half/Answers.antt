use Rattle.std.proofs.Common.{◌*◌, ◌^◌, ◌∙◌, sym, FitsSigned, lit<}
use Rattle.std.proofs.lemmas.Int.{to_z-of_z}
use mir.Syntax.{w128}
use Rattle.integer_laws.proofs.Sizes.{fits_by_size}
use Rattle.grid_round.proofs.HalfLaws.{half_large, half_found}
use Rattle.grid_round.proofs.halves.placed_half.Goals as goal

pub returns-in-Some : goal.returns-in-Some
returns-in-Some c =
    let k = c.args.half.now.plane in
    let a_fits : FitsSigned w128 k.a = fits_by_size k.a (10 ^ 7) c.requires.normal_small.x (lit< tt) in
    let b_fits : FitsSigned w128 k.b = fits_by_size k.b (10 ^ 7) c.requires.normal_small.y (lit< tt) in
    let c_fits : FitsSigned w128 k.c = fits_by_size k.c (10 ^ 7) c.requires.normal_small.z (lit< tt) in
    let d_fits : FitsSigned w128 k.d = fits_by_size k.d (3 * 10 ^ 20) c.requires.d_small (lit< tt) in
    half_found c.args.at c.args.half.now c.in-Some.plane c.is_in_front.result (sym c.is_near.ensures ∙ c.if-not-is_near.false) (simp to_z-of_z at c.in-Some.ensures.taken) c.is_in_front.ensures

pub returns-in-None : goal.returns-in-None
returns-in-None c =
    let k = c.args.half.now.plane in
    let a_fits : FitsSigned w128 k.a = fits_by_size k.a (10 ^ 7) c.requires.normal_small.x (lit< tt) in
    let b_fits : FitsSigned w128 k.b = fits_by_size k.b (10 ^ 7) c.requires.normal_small.y (lit< tt) in
    let c_fits : FitsSigned w128 k.c = fits_by_size k.c (10 ^ 7) c.requires.normal_small.z (lit< tt) in
    let d_fits : FitsSigned w128 k.d = fits_by_size k.d (3 * 10 ^ 20) c.requires.d_small (lit< tt) in
    half_large c.args.at c.args.half.now (sym c.is_near.ensures ∙ c.if-not-is_near.false) (simp to_z-of_z at c.in-None.ensures.too_large)
