use Rattle.edge_cut.proofs.Rounded.{edges_next, corners_next}
use Rattle.edge_cut.proofs.round.Round.push_all.Goals as goal

pub loop-corner-preserved : goal.loop-corner-preserved
loop-corner-preserved c = record {
  edges = edges_next c.args.self.now.edges.items c.loop-corner.self.edges.items c.push.new.self.edges.items c.args.edge c.args.inside.now c.loop-corner.corner-index c.corner-item.result c.loop-corner-test.true c.in_ok-push.ensures.edges c.loop-corner.invariant.edges;
  corners = corners_next c.args.self.now.corners.items c.loop-corner.self.corners.items c.push.new.self.corners.items c.args.inside.now c.loop-corner.corner-index c.corner-item.result c.loop-corner-test.true c.corner-item.is c.in_ok-push.ensures.corners c.loop-corner.invariant.corners;
}
