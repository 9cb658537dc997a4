use Rattle.std.proofs.Common.{◌≡◌, ◌≤◌, ◌^◌, length, drop}
use Rattle.spec_geometry.specs.Breps.{each_counted, member_bound}
use Rattle.ix_profile.specs.Outlines.{AreLong, AreWithin}
use Rattle.ifc_numbers.specs.Measures.{file_of}
use Rattle.ifc_breps.specs.Shells.{behind}
use Rattle.ifc_breps.proofs.faces.bounds.Given as goal

abbrev pub invariant-loop-p : goal.invariant-loop-p
invariant-loop-p l = record {
  few : l.reached ≤ 4096;
  all : length l.loops ≡ l.p-index;
  long : AreLong l.loops;
  within : AreWithin (10 ^ 16) l.loops;
  rest : each_counted (member_bound (file_of l.table l.g) l.face) l.members l.count
      ≡ behind l.loops (each_counted (member_bound (file_of l.table l.g) l.face) (drop l.p-index l.members) l.reached);
}
