use Rattle.corner_book.specs.Corners.{corners_of as book_corners}
use Rattle.edge_cut.specs.Rounds.{corners_of, faces_of}
use Rattle.edge_cut.proofs.Meshed.{faces_next}
use Rattle.edge_cut.proofs.mesh.build.Goals as goal

pub loop-outline-preserved : goal.loop-outline-preserved
loop-outline-preserved c =
    let has = c.in_ok-add_face.ensures.face in
    record {
      faces = faces_next c.args.book.now (book_corners c.args.corners.now) (corners_of c.loop-outline.builder) (corners_of c.add_face.new.self) c.args.outlines.now c.loop-outline.outline-index c.outline-item.result
          (faces_of c.loop-outline.builder) (faces_of c.add_face.new.self) has.0 c.loop-outline-test.true c.outline-item.is c.in_ok-add_face.ensures.grown has.1 has.2 c.loop-outline.invariant.faces;
      lines = c.in_ok-add_face.ensures.lines;
      order = c.in_ok-add_face.ensures.order c.loop-outline.invariant.order;
    }
