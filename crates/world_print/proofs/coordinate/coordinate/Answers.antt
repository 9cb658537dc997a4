use Rattle.std.proofs.Common.{ap, ap₂, ◌∙◌, pos, ◌+ℤ◌, ◌*ℤ◌, FitsSigned}
use Rattle.std.proofs.lemmas.Int.{to_z-of_z}
use mir.Syntax.{w128}
use Rattle.spec_num.specs.Rounding.{round_of}
use Rattle.spec_space.specs.Points.{dot}
use Rattle.integer_laws.proofs.Computed.{arg, again}
use Rattle.plane_core.proofs.Sizes.{known}
use Rattle.world_print.proofs.Images.{image_by_parts}
use Rattle.world_print.proofs.coordinate.coordinate.Goals as goal

pub returns : goal.returns
returns c =
    let p = c.args.corner.now in
    let row = c.args.row.now in
    let u = c.args.whole.now in
    let r = c.args.rest.now in
    let whole = again (known c.whole_image.ensures.value c.whole_image.ensures.size) tt in
    let rest = again (known c.rest_image.ensures.value c.rest_image.ensures.size) tt in
    let weight = arg p.w p.w_small tt in
    let answer : FitsSigned w128 c.rounded.result = record { sfits = c.rounded.type_inv } in
    to_z-of_z w128 c.rounded.result answer ∙ c.rounded.ensures
    ∙ ap₂ round_of
    (ap₂ (λ a b. a +ℤ b) (ap₂ (λ a b. a *ℤ b) (whole.is ∙ ap (λ o. dot row u *ℤ pos c.args.step +ℤ o *ℤ pos 1000000) (arg c.args.off c.requires.off tt).is) weight.is) rest.is
    ∙ image_by_parts row.x row.y row.z c.args.off (pos c.args.step) p.w u.x u.y u.z r.x r.y r.z p.x p.y p.z c.requires.split.x c.requires.split.y c.requires.split.z)
    (ap (λ n. pos 1000000000 *ℤ n) weight.is)
