use Rattle.std.proofs.Common.{◌≡◌, ◌-◌, ◌≤◌, All, Some, length}
use Rattle.spec_table.specs.Sections.{IsSimple}
use Rattle.spec_geometry.specs.Placements.{placements_to, most_links}
use Rattle.ifc_axes.proofs.Upwards.{before_found}
use Rattle.ifc_axes.proofs.placements.placements_from.Given as goal

abbrev pub invariant-loop-parent : goal.invariant-loop-parent
invariant-loop-parent l = record {
  few : length l.found.items ≤ 64;
  simple : All (IsSimple l.table) l.found.items;
  rest : placements_to most_links l.table (Some l.first) ≡ before_found (placements_to (64 - length l.found.items) l.table l.parent) l.found.items;
}

abbrev pub decreases-loop-parent : goal.decreases-loop-parent
decreases-loop-parent l = 64 - length l.found.items
