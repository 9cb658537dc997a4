use Rattle.std.proofs.Common.{◌≡◌, take, List}
use Rattle.world_print.specs.Elements.{Mesh}
use Rattle.ifc_numbers.specs.Measures.{file_of}
use Rattle.ix_page.specs.Counts.{HasTaken}
use Rattle.ix_page.proofs.items.take_elements.Given as goal

-- the writer took the meshes of the elements so far, which are counted, and has the same texts
abbrev pub invariant-loop-number : goal.invariant-loop-number
invariant-loop-number g l =
    let old = goal.MeshWriter-dyn g l.fn.writer.now in
    let new = goal.MeshWriter-dyn g l.writer.now in
    HasTaken (file_of l.table l.g) (take l.number-index l.numbers) (old.view l.fn.writer.now.1).taken (new.view l.writer.now.1).taken l.tally
    × (l.tally.elements ≡ l.number-index)
    × ((list : List Mesh) → (new.view l.writer.now.1).text_for list ≡ (old.view l.fn.writer.now.1).text_for list)
