use Rattle.corner_book.specs.Corners.{corners_of}
use Rattle.edge_cut.proofs.Found.{placed_next, line_below, line_found}
use Rattle.edge_cut.proofs.lines.corners_on.Goals as goal

pub corner-corner-requires : goal.corner-corner-requires
corner-corner-requires c = line_below c.args.book.now c.args.id.first c.args.id.second (corners_of c.args.corners.now) c.deref-place-items.result.now c.in_ok-places.places.items c.deref-place-items.ensures.value c.requires.first c.requires.second c.in_ok-places.ensures c.loop-place.place-index c.loop-place-test.true

pub loop-place-preserved : goal.loop-place-preserved
loop-place-preserved c = placed_next (corners_of c.args.corners.now) c.deref-place-items.result.now c.loop-place.place-index c.corner-corner.result.now c.loop-place.on.items c.push.new.self.items
    c.loop-place-test.true c.corner-corner.ensures c.in_ok-push.ensures.items c.loop-place.invariant

pub returns : goal.returns
returns c = line_found c.args.book.now c.args.id.first c.args.id.second (corners_of c.args.corners.now) c.deref-place-items.result.now c.in_ok-places.places.items c.loop-place.place-index c.loop-place.on.items c.deref-place-items.ensures.value c.requires.first c.requires.second c.in_ok-places.ensures c.loop-place-test.false c.loop-place.invariant
