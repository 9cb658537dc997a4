use Rattle.world_print.proofs.Prints.{image_in, next_printed, all_printed}
use Rattle.world_print.proofs.finished.print_corners.Goals as goal

pub loop-corner-preserved : goal.loop-corner-preserved
loop-corner-preserved c =
    next_printed (image_in c.args.frame.now c.args.step) c.args.corners.now c.loop-corner.corner-index c.corner-item.result c.loop-corner.printed.items c.push.new.self.items c.place_in.result
    c.loop-corner-test.true c.corner-item.is c.place_in.ensures c.in_ok-push.ensures.items c.loop-corner.invariant

pub returns : goal.returns
returns c = all_printed (image_in c.args.frame.now c.args.step) c.args.corners.now c.loop-corner.corner-index c.loop-corner.printed.items c.loop-corner-test.false c.loop-corner.invariant
