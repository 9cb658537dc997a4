use Rattle.std.proofs.Common.{map, take}
use Rattle.corner_book.specs.Corners.{corners_of, IsMadeWith}
use Rattle.edge_cut.specs.Outlines.{HasAdded}
use Rattle.edge_cut.proofs.gather.add_corners.Given as goal

abbrev pub invariant-loop-side : goal.invariant-loop-side
invariant-loop-side l = record {
  made : IsMadeWith l.book l.corners;
  added : HasAdded (corners_of l.fn.corners) (map (λ s. s.start) (take l.side-index l.outline.sides.items)) (corners_of l.corners);
}
