use Rattle.std.proofs.Common.{◌≡◌, ◌++◌, drop}
use Rattle.exact_mesh.proofs.Rings.{edges_to}
use Rattle.edge_balance.proofs.edges.put_edges.Given as goal

-- those so far and those that are left make up all
abbrev pub invariant-loop-to : goal.invariant-loop-to
invariant-loop-to l = l.edges.items ++ edges_to l.first l.from (drop l.to-index l.rest) ≡ l.fn.edges.items ++ edges_to l.first l.first l.rest
