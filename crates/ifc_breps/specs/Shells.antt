-- Faces that are read one shell after the other.
use Rattle.std.specs.Prelude.{ℕ, List, [], ◌∷◌, ◌++◌, Vec, Result, Ok}
use Rattle.spec_step.specs.declared.tree.Param.{Param}
use Rattle.spec_table.specs.Sections.{DataSection}
use Rattle.ifc_kinds.specs.declared.kind.Kind.TheVariants as kind
use Rattle.spec_refusal.specs.Reads.{Read, next}
use Rattle.spec_entity.specs.Reads.{named_instance, members}
use Rattle.spec_shape.specs.Shapes.{Face}
use Rattle.spec_geometry.specs.Files.{File}
use Rattle.spec_geometry.specs.Profiles.{Counted}
use Rattle.spec_geometry.specs.Breps.{each_counted, member_shell, flat}
use Rattle.ifc_numbers.specs.declared.faults.ItemFault.{ItemFault}
use Rattle.ifc_numbers.specs.Answers.{ReadsAs}

-- what stands before, and then what is read
abbrev pub behind : {T : Type 0} → List T → Counted (List T) → Counted (List T)
behind before read = next read (λ more. Ok (before ++ more.0, more.1))

-- faces that stand before, and then those of the shells that the members of the list of voids name
abbrev pub with_shells : File → ℕ → List Face → List Param → ℕ → Counted (List Face)
with_shells file n before ps count =
    next (each_counted (member_shell file n) ps count) (λ voids. Ok (before ++ flat voids.0, voids.1))

-- the members of the list of the outer shell of a brep
abbrev pub outer_members : DataSection → ℕ → Read (List Param)
outer_members section n = next (named_instance section (kind.ClosedShell ∷ []) n 1) (λ s. members section s 1)

-- the faces and the count are those of the definition, or memory is wanting
abbrev pub ReadsFaces : {A : Type 0} → Result (Vec Face A × ℕ) ItemFault → Counted (List Face) → Type 0
ReadsFaces result wanted = ReadsAs (λ read. (read.0.items, read.1)) result wanted
