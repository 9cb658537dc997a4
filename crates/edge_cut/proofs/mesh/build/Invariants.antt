use Rattle.std.proofs.Common.{take}
use Rattle.std.specs.List.{AllZip}
use Rattle.corner_book.specs.Corners.{corners_of as book_corners}
use Rattle.exact_mesh.specs.Order.{AreInFirstUse}
use Rattle.edge_cut.specs.Lines.{AreLines}
use Rattle.edge_cut.specs.Rounds.{corners_of, faces_of, IsFaceOf}
use Rattle.edge_cut.proofs.mesh.build.Given as goal

abbrev pub invariant-loop-outline : goal.invariant-loop-outline
invariant-loop-outline l = record {
  faces : AllZip (IsFaceOf l.book (book_corners l.corners) (corners_of l.builder)) (take l.outline-index l.outlines) (faces_of l.builder);
  lines : AreLines l.book (book_corners l.corners) l.lines;
  order : AreInFirstUse (corners_of l.builder) (faces_of l.builder);
}
