use Rattle.std.proofs.Common.{◌≡◌, take}
use Rattle.corner_book.specs.Corners.{corners_of}
use Rattle.edge_cut.proofs.Found.{found_at}
use Rattle.edge_cut.proofs.lines.corners_on.Given as goal

abbrev pub invariant-loop-place : goal.invariant-loop-place
invariant-loop-place l = l.on.items ≡ found_at (corners_of l.corners) (take l.place-index l.place-items)
