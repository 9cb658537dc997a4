use Rattle.std.proofs.Common.{ap, ◌∙◌}
use Rattle.spec_page.specs.World.{rounded_image}
use Rattle.plane_core.specs.Views.{point_of}
use Rattle.world_print.proofs.image.world_corner.Goals as goal

pub returns : goal.returns
returns c = c.place_in.ensures ∙ ap (λ f. rounded_image f c.args.step (point_of c.args.c.now)) c.f.view_is
