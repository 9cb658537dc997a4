use Rattle.spec_page.specs.Refusals.{spaced_corner}
use Rattle.world_print.proofs.Appended.{refused, begun_two, one_more, stopped_in, last}
use Rattle.obj_text.proofs.refusals.put_edge.Goals as goal

pub returns-in_err-put_spaced_corner : goal.returns-in_err-put_spaced_corner
returns-in_err-put_spaced_corner c =
    refused c.from_residual.result c.from_residual.ensures.0
    (stopped_in (spaced_corner c.args.from.now) (spaced_corner c.args.to.now) (begun_two (spaced_corner c.args.from.now) (spaced_corner c.args.to.now)) c.in_err-put_spaced_corner.ensures)

pub returns : goal.returns
returns c =
    last c.put_spaced_corner-2.new.page.items c.put_spaced_corner-2.result (one_more (spaced_corner c.args.from.now) (begun_two (spaced_corner c.args.from.now) (spaced_corner c.args.to.now)) c.in_ok-put_spaced_corner.ensures) c.put_spaced_corner-2.ensures
