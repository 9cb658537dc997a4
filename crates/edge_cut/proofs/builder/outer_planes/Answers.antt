use Rattle.std.proofs.Common.{false}
use Rattle.poly_frag.specs.declared.frag.Edge.{Edge}
use Rattle.edge_cut.proofs.Turned.{next_plane}
use Rattle.edge_cut.proofs.builder.outer_planes.Goals as goal

pub loop-edge-preserved : goal.loop-edge-preserved
loop-edge-preserved c =
    let d : Edge = record { plane = record { k = 0 }; keep_front = false } in
    next_plane c.args.book.now c.args.edges.now c.loop-edge.edge-index d c.plane.result.now c.loop-edge.planes.items c.push.new.self.items c.outward_numbers.result
    c.loop-edge-test.true c.plane.ensures.value c.outward_numbers.ensures c.in_ok-push.ensures.items c.loop-edge.invariant
