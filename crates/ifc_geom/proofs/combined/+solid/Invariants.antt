use Rattle.std.proofs.Common.{◌≡◌, ◌≤◌, ◌+◌, ◌*◌, drop, map}
use Rattle.spec_geometry.specs.Breps.{each_counted}
use Rattle.spec_geometry.specs.Solids.{solid, member_solid}
use Rattle.solid_expr.specs.Views.{shape_of}
use Rattle.ifc_numbers.specs.Measures.{file_of}
use Rattle.ifc_breps.specs.Shells.{behind}
use Rattle.ifc_geom.proofs.combined.«+solid».Given as goal

abbrev pub decreases-solid : goal.decreases-solid
decreases-solid l = 4 * l.deeper

abbrev pub decreases-solid_by : goal.decreases-solid_by
decreases-solid_by l = 4 * l.deeper + 3

abbrev pub decreases-operand : goal.decreases-operand
decreases-operand l = 4 * l.deeper + 1

abbrev pub decreases-boolean_result : goal.decreases-boolean_result
decreases-boolean_result l = 4 * l.deeper + 2

abbrev pub decreases-csg_solid : goal.decreases-csg_solid
decreases-csg_solid l = 4 * l.deeper + 2

abbrev pub decreases-mapped_item : goal.decreases-mapped_item
decreases-mapped_item l = 4 * l.deeper + 2

abbrev pub decreases-member_solids : goal.decreases-member_solids
decreases-member_solids l = 4 * l.deeper + 1

abbrev pub invariant-member_solids-loop-p : goal.invariant-member_solids-loop-p
invariant-member_solids-loop-p l = record {
  few : l.reached ≤ 4096;
  rest : each_counted (member_solid (file_of l.table l.g) (solid l.deeper (file_of l.table l.g)) l.representation l.map) l.members l.count
      ≡ behind (map shape_of l.parts) (each_counted (member_solid (file_of l.table l.g) (solid l.deeper (file_of l.table l.g)) l.representation l.map) (drop l.p-index l.members) l.reached);
}
