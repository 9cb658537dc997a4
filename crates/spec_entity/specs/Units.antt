-- Where the unit of length of a file stands (IFC4): in the project's units, the first unit of length.
use Rattle.std.specs.Prelude.{ℕ, Bool, false, ◌&&◌, List, [], ◌∷◌, Option, Some, None, Ok, Err, codes, if◌then◌else◌}
use Rattle.std.specs.List.{find}
use Rattle.std.specs.Str.{str_eq_ignore_ascii_case}
use Rattle.spec_step.specs.declared.tree.Param.{Param}
use Rattle.spec_table.specs.Sections.{DataSection}
use Rattle.spec_table.specs.Attributes.{Reading, attr_enum, read_ref}
use Rattle.ifc_kinds.specs.declared.kind.Kind.TheVariants as kind
use Rattle.spec_refusal.specs.Reads.{Read, next}
use Rattle.spec_entity.specs.Reads.{has_kind, is_one_of, named_instance, members, numbers_of}

-- the number of the first project of the file
abbrev pub first_project : DataSection → Option ℕ
first_project section = find (λ n. has_kind section n kind.Project) (numbers_of section)

-- an attribute is this enumeration, in letters of any case
abbrev pub says : List ℕ → Reading (Option (List ℕ)) → Bool
says word (Ok (Some text)) = str_eq_ignore_ascii_case text word
says word (Ok None) = false
says word (Err fault) = false

-- the instance is a unit of length
abbrev pub is_length_unit : DataSection → ℕ → Bool
is_length_unit section n =
    is_one_of section (kind.SiUnit ∷ kind.ConversionBasedUnit ∷ []) n && says (codes "LENGTHUNIT") (attr_enum section n 2)

-- a member of Units that is one
abbrev pub length_unit_in : DataSection → Reading ℕ → Option ℕ
length_unit_in section (Ok n) = if is_length_unit section n then Some n else None
length_unit_in section (Err fault) = None

abbrev pub or_else : Option ℕ → Option ℕ → Option ℕ
or_else None o = o
or_else (Some n) o = Some n

-- the first member that is a unit of length; members of other keywords, and references to no instance, are passed over
abbrev pub first_length_unit : DataSection → ℕ → List Param → Option ℕ
first_length_unit section units [] = None
first_length_unit section units (p ∷ ps) = or_else (length_unit_in section (read_ref section units 1 p)) (first_length_unit section units ps)

-- the unit of length of a project, if it has one
abbrev pub unit_of : DataSection → ℕ → Read (Option ℕ)
unit_of section project =
    next (named_instance section (kind.UnitAssignment ∷ []) project 9) (λ units.
    next (members section units 1) (λ ps. Ok (first_length_unit section units ps)))
