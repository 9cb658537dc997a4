use Rattle.std.proofs.Common.{take}
use Rattle.world_print.proofs.Prints.{ArePrinted, image_in}
use Rattle.world_print.proofs.finished.print_corners.Given as goal

abbrev pub invariant-loop-corner : goal.invariant-loop-corner
invariant-loop-corner l = ArePrinted (image_in l.frame l.step) (take l.corner-index l.corners) l.printed.items
