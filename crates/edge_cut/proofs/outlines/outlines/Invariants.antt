use Rattle.std.proofs.Common.{take}
use Rattle.std.specs.List.{AllZip}
use Rattle.edge_cut.specs.Outlines.{IsOutlineOf}
use Rattle.edge_cut.proofs.outlines.outlines.Given as goal

abbrev pub invariant-loop-face : goal.invariant-loop-face
invariant-loop-face l = AllZip (IsOutlineOf l.book) (take l.face-index l.faces) l.outlines.items
