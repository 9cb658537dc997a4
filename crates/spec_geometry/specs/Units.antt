-- The unit of length of a file (IFC4): the project's units, and in them the first unit of length.
use Rattle.std.specs.Prelude.{ℕ, ℤ, List, [], ◌∷◌, Option, Some, None, Result, Ok, Err, codes, if◌then◌else◌}
use Rattle.spec_table.specs.Sections.{DataSection}
use Rattle.spec_table.specs.Attributes.{attr_enum}
use Rattle.ifc_kinds.specs.declared.kind.Kind.TheVariants as kind
use Rattle.spec_place.specs.declared.prefix.Prefix.{Prefix}
use Rattle.spec_place.specs.declared.prefix.Prefix.TheVariants.{Kilo, Hecto, Deca, Deci, Centi, Milli, Micro}
use Rattle.spec_place.specs.Lengths.{metre, converted}
use Rattle.spec_refusal.specs.declared.Refusal.TheVariants.{BadAttribute}
use Rattle.spec_refusal.specs.declared.UnitFault.{UnitFault}
use Rattle.spec_refusal.specs.declared.UnitFault.TheVariants.{NoProject, NoLengthUnit}
use Rattle.spec_refusal.specs.Reads.{Read, next, only_if}
use Rattle.spec_entity.specs.Reads.{as_read, wanted_value, wanted_number, has_kind, named_instance}
use Rattle.spec_entity.specs.Units.{first_project, unit_of}
use Rattle.spec_geometry.specs.Files.{is_word, if_some, found}

-- IfcSIPrefix, as far as it is read
abbrev pub prefix_named : List ℕ → Option Prefix
prefix_named text =
    if is_word (codes "KILO") text then Some Kilo
    else (if is_word (codes "HECTO") text then Some Hecto
    else (if is_word (codes "DECA") text then Some Deca
    else (if is_word (codes "DECI") text then Some Deci
    else (if is_word (codes "CENTI") text then Some Centi
    else (if is_word (codes "MILLI") text then Some Milli
    else (if is_word (codes "MICRO") text then Some Micro else None))))))

-- the prefix of an IfcSIUnit, if it is set
abbrev pub prefix : DataSection → ℕ → Read (Option Prefix)
prefix section n =
    next (as_read (attr_enum section n 3)) (λ text. if_some (λ word. found (BadAttribute n 3) (prefix_named word)) text)

-- the metre with a prefix that an IfcSIUnit is, in nanometres
abbrev pub si_unit : DataSection → ℕ → Read ℤ
si_unit section n =
    next (wanted_value n 2 (attr_enum section n 2)) (λ _.
    next (prefix section n) (λ p.
    next (wanted_value n 4 (attr_enum section n 4)) (λ name.
    only_if (is_word (codes "METRE") name) (BadAttribute n 4) (Ok (metre p)))))

-- the unit that an IfcConversionBasedUnit is, by its IfcMeasureWithUnit: a factor over a metre with a prefix
abbrev pub conversion_based_unit : DataSection → ℕ → Read ℤ
conversion_based_unit section n =
    next (named_instance section (kind.MeasureWithUnit ∷ []) n 4) (λ measure.
    next (wanted_number section measure 1) (λ factor.
    next (named_instance section (kind.SiUnit ∷ []) measure 2) (λ unit.
    next (si_unit section unit) (λ nanometres.
    found (BadAttribute measure 1) (converted nanometres factor)))))

abbrev pub unit : DataSection → ℕ → Read ℤ
unit section n = if has_kind section n kind.SiUnit then si_unit section n else conversion_based_unit section n

-- the unit of length of a project in nanometres, if it has one
abbrev pub project_unit : DataSection → ℕ → Read (Option ℤ)
project_unit section project = next (unit_of section project) (λ o. if_some (unit section) o)

-- whatever is not read is no unit of length
abbrev pub unit_read : Read (Option ℤ) → Result ℤ UnitFault
unit_read (Ok (Some nanometres)) = Ok nanometres
unit_read (Ok None) = Err NoLengthUnit
unit_read (Err refusal) = Err NoLengthUnit

abbrev pub unit_in : DataSection → Option ℕ → Result ℤ UnitFault
unit_in section None = Err NoProject
unit_in section (Some project) = unit_read (project_unit section project)

-- the unit of length of the file in nanometres, by its first project
abbrev pub length_unit : DataSection → Result ℤ UnitFault
length_unit section = unit_in section (first_project section)
