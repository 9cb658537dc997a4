use Rattle.std.proofs.Common.{sym, ap, ◌∙◌}
use Rattle.spec_page.specs.World.{rounded_image}
use Rattle.plane_core.specs.Views.{point_of}
use Rattle.mesh_check.proofs.Nearest.{by_both, by_up}
use Rattle.mesh_check.proofs.images.is_near.Goals as goal

pub returns-then-are_same : goal.returns-then-are_same
returns-then-are_same c =
    sym (by_up c.args.frame.now c.args.step c.args.corner.now c.args.printed.now c.world_corner-up.result c.world_corner-up.ensures (sym c.are_same.ensures ∙ c.if-are_same.true))

pub returns : goal.returns
returns c =
    c.are_either.ensures
    ∙ by_both c.args.frame.now c.args.step c.args.corner.now c.args.printed.now c.world_corner-up.result c.world_corner.result c.world_corner-up.ensures
    (c.world_corner.ensures ∙ ap (λ t. rounded_image t c.args.step (point_of c.args.corner.now)) c.requires.back)
