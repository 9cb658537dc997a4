use Rattle.std.proofs.Common.{◌≡◌, take}
use Rattle.corner_book.specs.Places.{listed}
use Rattle.corner_book.proofs.lists.list_corner.Given as goal

abbrev pub invariant-loop-k : goal.invariant-loop-k
invariant-loop-k l = l.lists.items ≡ listed (take l.k l.book) l.corner l.place l.fn.lists.items
