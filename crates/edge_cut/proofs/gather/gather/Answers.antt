use Rattle.corner_book.specs.Corners.{corners_of}
use Rattle.edge_cut.proofs.Gathered.{gathered_next, gathered_all}
use Rattle.edge_cut.proofs.gather.gather.Goals as goal

pub loop-outline-preserved : goal.loop-outline-preserved
loop-outline-preserved c = record {
  made = c.in_ok-add_corners.ensures.made;
  corners = gathered_next c.args.outlines.now c.loop-outline.outline-index c.outline-item.result (corners_of c.loop-outline.corners) (corners_of c.add_corners.new.corners) c.loop-outline-test.true c.outline-item.is c.in_ok-add_corners.ensures.added c.loop-outline.invariant.corners;
}

pub returns-clause-corners : goal.returns-clause-corners
returns-clause-corners c = gathered_all c.args.outlines.now c.loop-outline.outline-index (corners_of c.loop-outline.corners) c.loop-outline-test.false c.loop-outline.invariant.corners
