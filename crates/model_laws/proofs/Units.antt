-- The unit of length of a file whose project has number 6, its units number 2, and the first of these number 1.
use Rattle.std.proofs.Common.{◌≡◌, pos, [], ◌∷◌, Some, Ok, true, refl, codes}
use Rattle.spec_step.specs.declared.tree.Param.TheVariants as param
use Rattle.spec_table.specs.Sections.{DataSection}
use Rattle.spec_table.specs.Attributes.{attr_enum, attr_ref, attr_list, read_ref}
use Rattle.ifc_kinds.specs.declared.kind.Kind.TheVariants as kind
use Rattle.spec_entity.specs.Reads.{has_kind, named_instance, members}
use Rattle.spec_entity.specs.Units.{first_project, is_length_unit, first_length_unit, unit_of}
use Rattle.spec_geometry.specs.Units.{si_unit, unit, project_unit, length_unit}

-- the facts of a section by which its unit of length is the millimetre
pub record HasMillimetres (section : DataSection) : Type 0 where
  pub project : first_project section ≡ Some 6
  pub units : attr_ref section 6 9 ≡ Ok (Some 2)
  pub assignment : has_kind section 2 kind.UnitAssignment ≡ true
  pub listed : attr_list section 2 1 ≡ Ok (Some (param.Reference 1 ∷ []))
  pub member : read_ref section 2 1 (param.Reference 1) ≡ Ok 1
  pub si_unit : has_kind section 1 kind.SiUnit ≡ true
  pub of_length : attr_enum section 1 2 ≡ Ok (Some (codes "LENGTHUNIT"))
  pub prefix : attr_enum section 1 3 ≡ Ok (Some (codes "MILLI"))
  pub name : attr_enum section 1 4 ≡ Ok (Some (codes "METRE"))

module _ (section : DataSection) (h : HasMillimetres section) where
  si_is : si_unit section 1 ≡ Ok (pos 1000000)
  si_is = rw (h.of_length, h.prefix, h.name) refl

  unit_is : unit section 1 ≡ Ok (pos 1000000)
  unit_is = rw h.si_unit si_is

  of_length : is_length_unit section 1 ≡ true
  of_length = rw (h.si_unit, h.of_length) refl

  first_is : first_length_unit section 2 (param.Reference 1 ∷ []) ≡ Some 1
  first_is = rw (h.member, of_length) refl

  units_is : named_instance section (kind.UnitAssignment ∷ []) 6 9 ≡ Ok 2
  units_is = rw (h.units, h.assignment) refl

  members_is : members section 2 1 ≡ Ok (param.Reference 1 ∷ [])
  members_is = rw h.listed refl

  found : unit_of section 6 ≡ Ok (Some 1)
  found = rw (units_is, members_is, first_is) refl

  read : project_unit section 6 ≡ Ok (Some (pos 1000000))
  read = rw (found, unit_is) refl

  pub millimetres : length_unit section ≡ Ok (pos 1000000)
  millimetres = rw (h.project, read) refl
