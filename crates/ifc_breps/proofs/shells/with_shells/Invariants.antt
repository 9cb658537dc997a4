use Rattle.std.proofs.Common.{◌≡◌, ◌≤◌, drop}
use Rattle.ifc_numbers.specs.Measures.{file_of}
use Rattle.ifc_breps.specs.Shells.{with_shells}
use Rattle.ifc_breps.proofs.shells.with_shells.Given as goal

abbrev pub invariant-loop-p : goal.invariant-loop-p
invariant-loop-p l = record {
  few : l.reached ≤ 4096;
  rest : with_shells (file_of l.table l.g) l.at l.fn.before.items l.members l.count
      ≡ with_shells (file_of l.table l.g) l.at l.faces.items (drop l.p-index l.members) l.reached;
}
