use Rattle.std.proofs.Common.{rules}
use Rattle.corner_book.specs.Corners.{corners_of}
use Rattle.edge_cut.proofs.Sorted.{sorted_by, sorted-IsLineOf}
use Rattle.edge_cut.proofs.lines.line_of.Goals as goal

pub returns : goal.returns
returns c =
    let sorted = c.sort_by.new.self.items in
    sorted-IsLineOf c.args.book.now (corners_of c.args.corners.now) c.args.id c.in_ok-line.line.items sorted c.count-count.ensures.distinct c.in_ok-line.ensures c.in_ok-sort_by.ensures.permutation
    (sorted_by sorted c.in_ok-sort_by.ensures.sorted (λ a r f' k. search rules))
