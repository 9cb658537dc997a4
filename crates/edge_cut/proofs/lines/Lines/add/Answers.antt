use Rattle.std.specs.Prelude.{Vec}
use Rattle.std.specs.declared.alloc.Global.{Global}
use Rattle.indexmap.specs.IndexMap.{get}
use Rattle.plane_core.specs.declared.numbers.Corner.{Corner}
use Rattle.corner_book.specs.Corners.{corners_of}
use Rattle.edge_cut.specs.Lines.{line_eq, IsLineOf}
use Rattle.edge_cut.proofs.LineBooks.{line_next}
use Rattle.edge_cut.proofs.lines.Lines.add.Goals as goal

pub returns-in-Ok-clause-lines : goal.returns-in-Ok-clause-lines
returns-in-Ok-clause-lines c =
    line_next {V = Vec Corner Global} (λ id line. IsLineOf c.args.book.now (corners_of c.args.corners.now) id line.items) (get line_eq c.args.self.now.lines) (get line_eq c.insert.new.self)
    c.args.id c.in_ok-line.line c.in-Ok.ensures.updates.0 c.in_ok-line.ensures c.requires.lines
