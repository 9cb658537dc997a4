use Rattle.std.proofs.Common.{sym, ◌∙◌}
use Rattle.corner_book.specs.Corners.{corners_of}
use Rattle.edge_cut.proofs.Among.{rising_result, falling-IsStretch}
use Rattle.edge_cut.proofs.inside.stretch.Goals as goal

pub corners_among-requires : goal.corners_among-requires
corners_among-requires c = (c.line-line.ensures c.args.book.now (corners_of c.args.corners.now) c.in_ok-add.ensures.lines).rising

pub corners_among-requires-2 : goal.corners_among-requires-2
corners_among-requires-2 c = (c.line-line.ensures c.args.book.now (corners_of c.args.corners.now) c.in_ok-add.ensures.lines).rising

pub returns-then-before_on_line-clause-inside : goal.returns-then-before_on_line-clause-inside
returns-then-before_on_line-clause-inside c =
    let planes = c.args.book.now in
    let cs = corners_of c.args.corners.now in
    falling-IsStretch planes c.args.support c.args.edge.now c.requires.edge cs c.line-line.result.now (c.line-line.ensures planes cs c.in_ok-add.ensures.lines)
    (sym c.before_on_line.ensures ∙ c.if-before_on_line.true) c.in_ok-inside.inside.items c.reverse.new.self.items c.in_ok-inside.ensures c.reverse.ensures.items

pub returns-clause-inside : goal.returns-clause-inside
returns-clause-inside c =
    let planes = c.args.book.now in
    let cs = corners_of c.args.corners.now in
    rising_result planes c.args.support c.args.edge.now c.requires.edge cs c.line-line.result.now (c.line-line.ensures planes cs c.in_ok-add.ensures.lines)
    (sym c.before_on_line.ensures ∙ c.if-before_on_line.false) c.corners_among-2.result c.corners_among-2.ensures
