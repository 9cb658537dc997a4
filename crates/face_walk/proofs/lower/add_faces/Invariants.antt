use Rattle.std.proofs.Common.{All}
use Rattle.plane_core.specs.declared.book.PlaneId.{PlaneId}
use Rattle.tree_pool.specs.Trees.{Tree}
use Rattle.face_walk.specs.Works.{IsFit, IsSheetOf, IsSafe, IsOnSupport, IsFragmentFace, sheets_weight}
use Rattle.face_walk.proofs.Lowered.{IsDown, IsOnPlane}
use Rattle.face_walk.proofs.lower.add_faces.Given as goal

-- what was found of the sheet, and the parts that wait
abbrev pub invariant-down : goal.invariant-down
invariant-down l = record {
  safe : All (IsSafe l.pool l.book) l.sheets.items;
  fragments : All (IsFragmentFace l.book) l.fn.faces.items → All (IsFragmentFace l.book) l.faces.items;
  down : (t : Tree) → IsFit l.book t → IsSheetOf l.pool l.book t l.fn.sheet → IsDown l.pool l.book t l.fn.sheet l.fn.faces.items l.sheets.items l.faces.items;
  on : (id : PlaneId) → IsOnSupport id l.fn.sheet → IsOnPlane id l.fn.faces.items l.sheets.items l.faces.items;
}

abbrev pub decreases-down : goal.decreases-down
decreases-down l = sheets_weight l.pool l.sheets.items
