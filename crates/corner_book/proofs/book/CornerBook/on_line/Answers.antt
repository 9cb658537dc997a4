use Rattle.corner_book.specs.Corners.{corners_of}
use Rattle.corner_book.proofs.Books.{if_ok}
use Rattle.corner_book.proofs.Lines.{on_first, on_second}
use Rattle.corner_book.proofs.book.CornerBook.on_line.Goals as goal

pub returns-then-first-second : goal.returns-then-first-second
returns-then-first-second c =
    if_ok c.places_on.result c.places_on.ensures
    (λ v e. on_second c.args.book.now c.args.p.k c.args.q.k (corners_of c.args.self.now) c.places-first.result.now v.items c.plane.result.now c.places-first.ensures c.plane.ensures.value e)

pub returns-else-first-second : goal.returns-else-first-second
returns-else-first-second c =
    if_ok c.places_on-else-first-second.result c.places_on-else-first-second.ensures
    (λ v e. on_first c.args.book.now c.args.p.k c.args.q.k (corners_of c.args.self.now) c.places-second.result.now v.items c.plane-else-first-second.result.now c.places-second.ensures c.plane-else-first-second.ensures.value e)
