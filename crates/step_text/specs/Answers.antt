-- The answers of the parser; want of memory is free.
use Rattle.std.specs.Prelude.{◌≡◌, ◌⊎◌, ℕ, List, Result, Ok, Err}
use Rattle.spec_step.specs.Files.{IsCause}
use Rattle.spec_step.specs.declared.fault.StepFault.{StepFault}
use Rattle.spec_step.specs.declared.fault.StepFault.TheVariants.{NoMemory}

-- the text is refused with this cause, or memory is wanting
abbrev pub IsCauseOrWant : List ℕ → StepFault → Type 0
IsCauseOrWant s fault = IsCause s fault ⊎ (fault ≡ NoMemory)

-- the answer is a value of which this holds, or memory is wanting
abbrev pub IsOkOrWant : {T : Type 0} → Result T StepFault → (T → Type 0) → Type 0
IsOkOrWant (Ok x) P = P x
IsOkOrWant (Err fault) P = fault ≡ NoMemory

-- the answer is this fault, or memory is wanting
abbrev pub IsFaultOrWant : {T : Type 0} → Result T StepFault → StepFault → Type 0
IsFaultOrWant (Ok x) wanted = ⊥
IsFaultOrWant (Err fault) wanted = (fault ≡ wanted) ⊎ (fault ≡ NoMemory)
