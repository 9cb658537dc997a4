use Rattle.std.proofs.Common.{◌≡◌, drop}
use Rattle.edge_balance.specs.Pairs.{first_difference}
use Rattle.edge_balance.proofs.differences.first_difference.Given as goal

-- the lists differ first behind what they have in common
abbrev pub invariant-loop-i : goal.invariant-loop-i
invariant-loop-i l = first_difference (drop l.i l.first) (drop l.i l.second) ≡ first_difference l.first l.second
