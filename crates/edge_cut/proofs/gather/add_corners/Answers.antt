use Rattle.corner_book.specs.Corners.{corners_of}
use Rattle.edge_cut.proofs.Gathered.{meet_at, added_side, added_all}
use Rattle.edge_cut.proofs.gather.add_corners.Goals as goal

pub add-requires-clause-meet : goal.add-requires-clause-meet
add-requires-clause-meet c = meet_at c.args.book.now c.args.outline.now.support c.deref-side-items.result.now c.args.outline.now.sides.items c.loop-side.side-index c.side-item.result c.deref-side-items.ensures.value c.loop-side-test.true c.side-item.is c.requires.given.meet

pub loop-side-preserved : goal.loop-side-preserved
loop-side-preserved c = record {
  made = c.in_ok-add.ensures.made;
  added = added_side (corners_of c.args.corners.now) (corners_of c.loop-side.corners) (corners_of c.add.new.self) c.deref-side-items.result.now c.args.outline.now.sides.items c.loop-side.side-index c.side-item.result c.deref-side-items.ensures.value c.loop-side-test.true c.side-item.is
      (λ there. (c.in_ok-add.ensures.known there).0) (λ absent. (c.in_ok-add.ensures.added absent).0) c.loop-side.invariant.added;
}

pub returns-clause-added : goal.returns-clause-added
returns-clause-added c = added_all (corners_of c.args.corners.now) (corners_of c.loop-side.corners) c.deref-side-items.result.now c.args.outline.now c.loop-side.side-index c.deref-side-items.ensures.value c.loop-side-test.false c.loop-side.invariant.added
