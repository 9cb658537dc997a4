use Rattle.std.proofs.Common.{◌≡◌, ◌≤◌, ◌++◌, drop, map, Ok}
use Rattle.spec_refusal.specs.Reads.{next}
use Rattle.spec_geometry.specs.Breps.{each_counted}
use Rattle.spec_geometry.specs.Elements.{item}
use Rattle.solid_expr.specs.Views.{item_of}
use Rattle.ifc_numbers.specs.Measures.{file_of}
use Rattle.ifc_elem.proofs.bodies.items.Given as goal

abbrev pub invariant-loop-p : goal.invariant-loop-p
invariant-loop-p l = record {
  few : l.reached ≤ 4096;
  rest : each_counted (item (file_of l.table l.g) l.at l.map) l.members l.count
      ≡ next (each_counted (item (file_of l.table l.g) l.at l.map) (drop l.p-index l.members) l.reached) (λ more. Ok (map item_of l.items.items ++ more.0, more.1));
}
