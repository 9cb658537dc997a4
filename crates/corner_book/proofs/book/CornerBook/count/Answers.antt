use Rattle.corner_book.specs.Corners.{corners_of}
use Rattle.corner_book.proofs.Same.{distinct_keys}
use Rattle.corner_book.proofs.book.CornerBook.count.Goals as goal

pub returns-clause-distinct : goal.returns-clause-distinct
returns-clause-distinct c = distinct_keys (corners_of c.args.self.now) c.len.ensures.unique
