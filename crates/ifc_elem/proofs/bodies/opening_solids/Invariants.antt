use Rattle.std.proofs.Common.{◌≡◌, ◌≤◌, ◌++◌, drop, map, Ok}
use Rattle.spec_refusal.specs.Reads.{next}
use Rattle.spec_geometry.specs.Elements.{openings}
use Rattle.solid_expr.specs.Views.{item_of}
use Rattle.ifc_numbers.specs.Measures.{file_of}
use Rattle.ifc_elem.proofs.bodies.opening_solids.Given as goal

abbrev pub invariant-loop-relation : goal.invariant-loop-relation
invariant-loop-relation l = record {
  few : l.reached ≤ 4096;
  rest : openings (file_of l.table l.g) l.element l.relations l.count
      ≡ next (openings (file_of l.table l.g) l.element (drop l.relation-index l.relations) l.reached) (λ more. Ok (map item_of l.found.items ++ more.0, more.1));
}
