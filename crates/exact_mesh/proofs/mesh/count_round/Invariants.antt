use Rattle.std.proofs.Common.{◌≡◌, ◌+◌, ◌≤◌, drop}
use Rattle.exact_mesh.proofs.Rings.{count_to}
use Rattle.exact_mesh.proofs.mesh.count_round.Given as goal

-- those so far and those that are left make up all
abbrev pub invariant-loop-to : goal.invariant-loop-to
invariant-loop-to l = record {
  few : l.count ≤ l.to-index;
  all : l.count + count_to l.u l.v l.first l.from (drop l.to-index l.rest) ≡ count_to l.u l.v l.first l.first l.rest;
}
