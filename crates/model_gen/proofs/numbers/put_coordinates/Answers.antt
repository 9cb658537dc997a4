use Rattle.std.proofs.Common.{◌++◌, FitsSigned, ap, ◌∙◌, arith}
use Rattle.std.proofs.lemmas.Int.{to_z-of_z, ints}
use mir.Syntax.{w64}
use Rattle.model_gen.specs.Lines.{coordinate, further}
use Rattle.model_gen.proofs.Texts.{joined_three, on_ok}
use Rattle.model_gen.proofs.numbers.put_coordinates.Goals as goal

pub returns : goal.returns
returns c =
    let v = c.args.place.now in
    let old = c.args.page.now.items in
    let p = c.put_coordinate.new.page.items in
    let q = c.put_further.new.page.items in
    let fit_x : FitsSigned w64 v.x = omega (arith, ints) in
    let fit_y : FitsSigned w64 v.y = omega (arith, ints) in
    let fit_z : FitsSigned w64 v.z = omega (arith, ints) in
    on_ok c.put_further-2.result
    (λ e. joined_three old p q c.put_further-2.new.page.items (coordinate v.x) (further v.y) (further v.z)
    (c.in_ok-put_coordinate.ensures ∙ ap (λ n. old ++ coordinate n) (to_z-of_z w64 v.x fit_x))
    (c.in_ok-put_further.ensures ∙ ap (λ n. p ++ further n) (to_z-of_z w64 v.y fit_y))
    (e ∙ ap (λ n. q ++ further n) (to_z-of_z w64 v.z fit_z)))
    c.put_further-2.ensures
