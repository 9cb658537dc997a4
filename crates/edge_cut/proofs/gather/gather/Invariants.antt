use Rattle.std.proofs.Common.{take}
use Rattle.std.specs.List.{flat_map}
use Rattle.corner_book.specs.Corners.{corners_of, IsMadeWith}
use Rattle.edge_cut.specs.Outlines.{starts_of, HasCorners}
use Rattle.edge_cut.proofs.gather.gather.Given as goal

abbrev pub invariant-loop-outline : goal.invariant-loop-outline
invariant-loop-outline l = record {
  made : IsMadeWith l.book l.corners;
  corners : HasCorners (flat_map starts_of (take l.outline-index l.outlines)) (corners_of l.corners);
}
