use Rattle.std.proofs.Common.{◌≡◌, take}
use Rattle.std.specs.BTreeSet.{contains}
use Rattle.shell_edges.specs.declared.place.Place.{Place}
use Rattle.shell_edges.specs.Odd.{edge_of, joint_cmp, is_odd}
use Rattle.shell_edges.proofs.odd.open_edge.Given as goal

abbrev pub invariant-loop-edge : goal.invariant-loop-edge
invariant-loop-edge l = (k : Place × Place) → contains joint_cmp l.odd k ≡ is_odd (take l.edge-index l.edges) (edge_of k)
