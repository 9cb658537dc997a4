use Rattle.std.proofs.Common.{◌≡◌, ◌++◌, map, take}
use Rattle.edge_cut.proofs.round.Round.push_all.Given as goal

abbrev pub invariant-loop-corner : goal.invariant-loop-corner
invariant-loop-corner l = record {
  edges : l.self.edges.items ≡ l.fn.self.edges.items ++ map (λ c. l.edge) (take l.corner-index l.inside);
  corners : l.self.corners.items ≡ l.fn.self.corners.items ++ take l.corner-index l.inside;
}
