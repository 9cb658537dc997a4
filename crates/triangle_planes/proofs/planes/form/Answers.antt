use Rattle.std.proofs.Common.{◌^◌, FitsSigned, lit<}
use Rattle.std.proofs.lemmas.Int.{to_z-of_z}
use Rattle.std.proofs.Math.Logic.{∥∥₁_elim}
use mir.Syntax.{w128}
use Rattle.integer_laws.proofs.Sizes.{fits_by_size}
use Rattle.triangle_planes.proofs.Divisors.{has_no_form}
use Rattle.triangle_planes.proofs.planes.form.Goals as goal

pub returns-in-Some : goal.returns-in-Some
returns-in-Some c =
    let k = c.args.plane in
    let is = c.requires.plane in
    let a_fits : FitsSigned w128 k.a = fits_by_size k.a (2 ^ 70) is.a (lit< tt) in
    let b_fits : FitsSigned w128 k.b = fits_by_size k.b (2 ^ 70) is.b (lit< tt) in
    let c_fits : FitsSigned w128 k.c = fits_by_size k.c (2 ^ 70) is.c (lit< tt) in
    let d_fits : FitsSigned w128 k.d = fits_by_size k.d (2 ^ 70) is.d (lit< tt) in
    record { taken = simp to_z-of_z at c.in-Some.ensures.taken; too_large = tt }

pub returns-in-None : goal.returns-in-None
returns-in-None c =
    let k = c.args.plane in
    let is = c.requires.plane in
    let a_fits : FitsSigned w128 k.a = fits_by_size k.a (2 ^ 70) is.a (lit< tt) in
    let b_fits : FitsSigned w128 k.b = fits_by_size k.b (2 ^ 70) is.b (lit< tt) in
    let c_fits : FitsSigned w128 k.c = fits_by_size k.c (2 ^ 70) is.c (lit< tt) in
    let d_fits : FitsSigned w128 k.d = fits_by_size k.d (2 ^ 70) is.d (lit< tt) in
    let none = simp to_z-of_z at c.in-None.ensures.too_large in
    record { taken = tt; too_large = λ form. ∥∥₁_elim form (λ a b. absurd a) (λ f. has_no_form k is none f.0 f.1) }
