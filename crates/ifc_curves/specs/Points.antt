-- Where the points of a curve stand.
use Rattle.std.specs.Prelude.{ℕ, List, [], ◌∷◌, if◌then◌else◌}
use Rattle.spec_step.specs.declared.tree.Param.{Param}
use Rattle.spec_table.specs.Sections.{DataSection}
use Rattle.ifc_kinds.specs.declared.kind.Kind.TheVariants as kind
use Rattle.spec_refusal.specs.Reads.{Read, next}
use Rattle.spec_entity.specs.Reads.{has_kind, named_instance, members}
use Rattle.spec_geometry.specs.Curves.{curve_kinds}

-- the members of the list of points of an IfcIndexedPolyCurve
abbrev pub listed_points : DataSection → ℕ → Read (List Param)
listed_points section n = next (named_instance section (kind.CartesianPointList2d ∷ []) n 1) (λ list. members section list 1)

-- the members of the list in which the points of a curve stand
abbrev pub curve_members : DataSection → ℕ → Read (List Param)
curve_members section n = if has_kind section n kind.Polyline then members section n 1 else listed_points section n

-- those of the curve at a position
abbrev pub named_members : DataSection → ℕ → ℕ → Read (List Param)
named_members section at position = next (named_instance section curve_kinds at position) (curve_members section)
