use Rattle.std.proofs.Common.{◌∙◌, ◌++◌, map, ap}
use Rattle.edge_cut.proofs.Rounded.{two_pushes}
use Rattle.edge_cut.proofs.round.Round.add.Goals as goal

pub returns-clause-cut : goal.returns-clause-cut
returns-clause-cut c =
    let inside = c.in_ok-inside.inside.items in
    record {
      inside = inside;
      stretch = c.in_ok-inside.ensures.inside;
      edges = two_pushes c.args.self.now.edges.items c.push.new.self.edges.items c.push_all.new.self.edges.items c.args.side.now.edge (map (λ d. c.args.side.now.edge) inside) c.in_ok-push.ensures.edges
          (c.in_ok-push_all.ensures.edges ∙ ap (λ cs. c.push.new.self.edges.items ++ map (λ d. c.args.side.now.edge) cs) c.deref.ensures.value);
      corners = two_pushes c.args.self.now.corners.items c.push.new.self.corners.items c.push_all.new.self.corners.items c.args.side.now.start inside c.in_ok-push.ensures.corners
          (c.in_ok-push_all.ensures.corners ∙ ap (λ cs. c.push.new.self.corners.items ++ cs) c.deref.ensures.value);
    }
