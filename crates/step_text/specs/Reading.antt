-- One step of the parser: how a token more and the end of the text change what was read.
use Rattle.std.specs.Prelude.{◌≡◌, ℕ, ◌<◌, ◌≤◌, List, Option, Some, None}
use Rattle.spec_step.specs.declared.tree.Entry.{Entry}
use Rattle.spec_step.specs.declared.tree.Instance.{Instance}
use Rattle.spec_step.specs.declared.fault.StepFault.{StepFault}
use Rattle.spec_step.specs.declared.fault.StepFault.TheVariants.{Syntax, Nested, Schema, DuplicateNumber, NoMemory}
use Rattle.step_grammar.specs.Places.{State, open_at}
use Rattle.step_grammar.specs.declared.place.Fixed.TheVariants.{Nothing}
use Rattle.step_grammar.specs.declared.place.Place.{Place}
use Rattle.step_grammar.specs.declared.place.Place.TheVariants.{Fixed}
use Rattle.step_grammar.specs.declared.place.Progress.{Progress}

-- the token may stand there, this is what was read with it, and it isn't too deep
abbrev pub Goes : Option State → State → Type 0
Goes o q = (o ≡ Some q) × (open_at q ≤ 32)

-- the token at this place may not stand there, or it opens one parenthesis too many, or memory is wanting
abbrev pub Halts : Option State → ℕ → StepFault → Type 0
Halts o from (Syntax at) = (o ≡ None) × (at ≡ from)
Halts o from (Nested at) = (q : State) × (o ≡ Some q) × (32 < open_at q) × (at ≡ from)
Halts o from Schema = ⊥
Halts o from (DuplicateNumber n first second) = ⊥
Halts o from NoMemory = Unit {0}

-- the place is behind the last semicolon, and this is the file
abbrev pub IsWhole : Place → Progress → List Entry → List Instance → Type 0
IsWhole p progress head instances = (p ≡ Fixed Nothing) × (head ≡ progress.head) × (instances ≡ progress.instances)

-- the place is another
abbrev pub IsUnfinished : Place → ℕ → StepFault → Type 0
IsUnfinished p at fault = (p ≡ Fixed Nothing → ⊥) × (fault ≡ Syntax at)
