use Rattle.std.proofs.Common.{◌≡◌, ◌≤◌, ◌^◌, drop}
use Rattle.ix_profile.specs.Outlines.{IsOutline}
use Rattle.ifc_numbers.specs.Measures.{file_of}
use Rattle.ifc_profiles.specs.Voids.{with_inner}
use Rattle.ifc_profiles.proofs.curved.with_voids.Given as goal

abbrev pub invariant-loop-p : goal.invariant-loop-p
invariant-loop-p l = record {
  few : l.reached ≤ 4096;
  outline : IsOutline (10 ^ 16) l.loops;
  rest : with_inner (file_of l.table l.g) l.at l.fn.outer l.members l.count ≡ with_inner (file_of l.table l.g) l.at l.loops (drop l.p-index l.members) l.reached;
}
