-- What the answers of readers that take memory stand for in the definitions.
use Rattle.std.specs.Prelude.{◌≡◌, ⊤, List, Vec, Option, Some, None, Result, Ok, Err}
use Rattle.spec_refusal.specs.Reads.{Read}
use Rattle.ifc_numbers.specs.declared.faults.ItemFault.{ItemFault}
use Rattle.ifc_numbers.specs.declared.faults.ItemFault.TheVariants.{Refused, NoMemory}

-- the answer, seen so, is that of the definition, or memory is wanting
abbrev pub ReadsAs : {T U : Type 0} → (T → U) → Result T ItemFault → Read U → Type 0
ReadsAs view (Ok x) wanted = wanted ≡ Ok (view x)
ReadsAs view (Err (Refused refusal)) wanted = wanted ≡ Err refusal
ReadsAs view (Err NoMemory) wanted = ⊤

-- the same of a list
abbrev pub ReadsList : {T A : Type 0} → Result (Vec T A) ItemFault → Read (List T) → Type 0
ReadsList result wanted = ReadsAs (λ found. found.items) result wanted

-- memory is wanting only where this is read
abbrev pub WantsMemoryOnlyWhere : {T U : Type 0} → Result T ItemFault → Read U → Type 0
WantsMemoryOnlyWhere (Err NoMemory) (Ok x) = ⊤
WantsMemoryOnlyWhere (Err NoMemory) (Err refusal) = ⊥
WantsMemoryOnlyWhere (Err (Refused refusal)) read = ⊤
WantsMemoryOnlyWhere (Ok found) read = ⊤

-- memory is wanting only where this is read, and set
abbrev pub WantsMemoryOnlyFor : {T U : Type 0} → Result T ItemFault → Read (Option U) → Type 0
WantsMemoryOnlyFor (Err NoMemory) (Ok (Some x)) = ⊤
WantsMemoryOnlyFor (Err NoMemory) (Ok None) = ⊥
WantsMemoryOnlyFor (Err NoMemory) (Err refusal) = ⊥
WantsMemoryOnlyFor (Err (Refused refusal)) read = ⊤
WantsMemoryOnlyFor (Ok found) read = ⊤
