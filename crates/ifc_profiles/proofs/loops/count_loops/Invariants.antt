use Rattle.std.proofs.Common.{◌≡◌, ◌≤◌, drop}
use Rattle.spec_geometry.specs.Profiles.{count_loops}
use Rattle.ifc_profiles.proofs.loops.count_loops.Given as goal

abbrev pub invariant-loop-l : goal.invariant-loop-l
invariant-loop-l l = record {
  few : l.reached ≤ 4096;
  rest : count_loops l.count l.loops ≡ count_loops l.reached (drop l.l-index l.loops);
}
