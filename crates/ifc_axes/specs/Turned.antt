-- Placements that are found from a product to the root.
use Rattle.std.specs.Prelude.{ℕ, List, [], ◌∷◌, reverse, Vec, Option, Result, Ok}
use Rattle.spec_table.specs.Sections.{DataSection}
use Rattle.spec_table.specs.Attributes.{attr_ref}
use Rattle.ifc_kinds.specs.declared.kind.Kind.TheVariants as kind
use Rattle.spec_refusal.specs.Reads.{Read, next}
use Rattle.spec_entity.specs.Reads.{as_read, instance_of_kinds}
use Rattle.ifc_numbers.specs.declared.faults.ItemFault.{ItemFault}
use Rattle.ifc_numbers.specs.Answers.{ReadsAs}

-- the answer, turned round, is that of the definition, or memory is wanting
abbrev pub ReadsTurned : {T A : Type 0} → Result (Vec T A) ItemFault → Read (List T) → Type 0
ReadsTurned result wanted = ReadsAs (λ found. reverse found.items) result wanted

-- a placement, and the number of the one to which it is relative
abbrev pub placement_read : DataSection → ℕ → Read (ℕ × Option ℕ)
placement_read section n =
    next (instance_of_kinds section (kind.LocalPlacement ∷ []) n) (λ p.
    next (as_read (attr_ref section p 1)) (λ parent. Ok (p, parent)))
