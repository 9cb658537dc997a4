use Rattle.std.proofs.Common.{◌≡◌, take}
use Rattle.ifc_numbers.specs.Measures.{file_of}
use Rattle.ix_page.specs.Counts.{HasElements}
use Rattle.ix_page.proofs.items.put_elements.Given as goal

-- the elements so far stand on the page, and are counted
abbrev pub invariant-loop-number : goal.invariant-loop-number
invariant-loop-number l =
    HasElements (file_of l.table l.g) (take l.number-index l.numbers) l.fn.page.items l.page.items l.tally × (l.tally.elements ≡ l.number-index)
