use Rattle.std.proofs.Common.{◌≡◌, take}
use Rattle.corner_book.specs.Places.{unlisted}
use Rattle.corner_book.proofs.lists.unlist_corner.Given as goal

abbrev pub invariant-loop-k : goal.invariant-loop-k
invariant-loop-k l = l.lists.items ≡ unlisted (take l.k l.book) l.corner l.fn.lists.items
