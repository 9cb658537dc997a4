-- The operator of a Boolean result (IFC4, IfcBooleanOperator).
use Rattle.std.specs.Prelude.{ℕ, List, Ok, Err, codes, if◌then◌else◌}
use Rattle.std.specs.Str.{str_eq_ignore_ascii_case}
use Rattle.spec_solid.specs.declared.BoolOp.{BoolOp}
use Rattle.spec_solid.specs.declared.BoolOp.TheVariants.{Union, Intersection, Difference}
use Rattle.spec_table.specs.Sections.{DataSection}
use Rattle.spec_table.specs.Attributes.{attr_enum}
use Rattle.spec_refusal.specs.declared.Refusal.TheVariants.{BadAttribute}
use Rattle.spec_refusal.specs.Reads.{Read, next}
use Rattle.spec_entity.specs.Reads.{wanted_value}

abbrev pub operator_named : ℕ → List ℕ → Read BoolOp
operator_named n text =
    if str_eq_ignore_ascii_case text (codes "UNION") then Ok Union
    else (if str_eq_ignore_ascii_case text (codes "INTERSECTION") then Ok Intersection
    else (if str_eq_ignore_ascii_case text (codes "DIFFERENCE") then Ok Difference else Err (BadAttribute n 1)))

abbrev pub operator : DataSection → ℕ → Read BoolOp
operator section n = next (wanted_value n 1 (attr_enum section n 1)) (operator_named n)
