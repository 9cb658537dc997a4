use Rattle.std.proofs.Common.{take}
use Rattle.corner_book.specs.Corners.{corners_of}
use Rattle.edge_cut.specs.Lines.{AreLines}
use Rattle.edge_cut.proofs.Rounded.{IsRoundSoFar}
use Rattle.edge_cut.proofs.round.cut_round.Given as goal

abbrev pub invariant-loop-side : goal.invariant-loop-side
invariant-loop-side l = record {
  round : IsRoundSoFar l.book (corners_of l.corners) l.outline.support (take l.side-index l.outline.sides.items) l.round;
  lines : AreLines l.book (corners_of l.corners) l.lines;
}
