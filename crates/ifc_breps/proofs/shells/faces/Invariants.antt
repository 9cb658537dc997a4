use Rattle.std.proofs.Common.{◌≡◌, ◌≤◌, drop}
use Rattle.spec_geometry.specs.Breps.{each_counted, member_face}
use Rattle.ifc_numbers.specs.Measures.{file_of}
use Rattle.ifc_breps.specs.Shells.{behind}
use Rattle.ifc_breps.proofs.shells.faces.Given as goal

abbrev pub invariant-loop-p : goal.invariant-loop-p
invariant-loop-p l = record {
  few : l.reached ≤ 4096;
  rest : each_counted (member_face (file_of l.table l.g) l.shell) l.members l.count
      ≡ behind l.faces.items (each_counted (member_face (file_of l.table l.g) l.shell) (drop l.p-index l.members) l.reached);
}
