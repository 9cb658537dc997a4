-- An input is one thing: a file that is converted, by its one DATA section, or one that is refused for one reason.
use Rattle.std.proofs.Common.{◌≡◌, ℕ, ℤ, ◌<◌, ◌≤◌, List, length, Option, Result, Ok, Err, refl, sym, ◌∙◌, ap, arith}
use Rattle.spec_step.specs.declared.fault.StepFault.{StepFault}
use Rattle.spec_step.specs.declared.fault.StepFault.TheVariants as step
use Rattle.spec_table.specs.Sections.{DataSection}
use Rattle.spec_geometry.specs.Units.{length_unit}
use Rattle.spec_refusal.specs.declared.UnitFault.{UnitFault}
use Rattle.spec_refusal.specs.declared.UnitFault.TheVariants as fault
use Rattle.spec_run.specs.declared.FileFault.{FileFault}
use Rattle.spec_run.specs.declared.FileFault.TheVariants.{TooLarge, Syntax, Nested, Schema, DuplicateNumber, NoProject, NoLengthUnit}
use Rattle.spec_run.specs.Inputs.{most_bytes, IsFileWith, IsInput, IsNoFile, LacksUnit, IsFaultOf}
use Rattle.spec_run.specs.Tasks.Converting.{Format, converting}
use Rattle.ix_convert.proofs.Found.{HasOneAnswer}
use Rattle.step_text.proofs.OneAnswer.{one_file, one_cause, no_cause}

same_section : (s t : DataSection) → s.text ≡ t.text → s.instances ≡ t.instances → s ≡ t
same_section s t p q = λ i. record { text = p i; instances = q i }

-- a file has one DATA section
pub one_section : (given : List ℕ) (s t : DataSection) → IsFileWith given s → IsFileWith given t → s ≡ t
one_section given s t h k =
    same_section s t (h.text ∙ sym k.text) (one_file given h.head k.head s.instances t.instances h.accepted.file k.accepted.file).1

-- the faults of a text, and of a file without a unit of length, as faults of an input

abbrev text_fault : StepFault → FileFault
text_fault (step.Syntax at) = Syntax at
text_fault (step.Nested at) = Nested at
text_fault step.Schema = Schema
text_fault (step.DuplicateNumber n first second) = DuplicateNumber n first second
text_fault step.NoMemory = TooLarge

abbrev unit_fault : UnitFault → FileFault
unit_fault fault.NoProject = NoProject
unit_fault fault.NoLengthUnit = NoLengthUnit

-- each fault is one of three kinds
data Kind (given : List ℕ) : FileFault → Type 0 where
  large : most_bytes < length given → Kind given TooLarge
  no_file : (why : StepFault) → IsNoFile given why → Kind given (text_fault why)
  no_unit : (why : UnitFault) → LacksUnit given why → Kind given (unit_fault why)

kind_of : (given : List ℕ) (why : FileFault) → IsFaultOf given why → Kind given why
kind_of given TooLarge h = large h
kind_of given (Syntax at) h = no_file (step.Syntax at) h
kind_of given (Nested at) h = no_file (step.Nested at) h
kind_of given Schema h = no_file step.Schema h
kind_of given (DuplicateNumber n first second) h = no_file (step.DuplicateNumber n first second) h
kind_of given NoProject h = no_unit fault.NoProject h
kind_of given NoLengthUnit h = no_unit fault.NoLengthUnit h

too_long : (n : ℕ) → n ≤ most_bytes → most_bytes < n → ⊥
too_long n p q = omega arith

abbrev read : ℤ → Result ℤ UnitFault
read unit = Ok unit

abbrev failure : UnitFault → Result ℤ UnitFault
failure why = Err why

same_failure : (why other : UnitFault) → failure why ≡ failure other → why ≡ other
same_failure why other e = cc

no_failure : (unit : ℤ) (why : UnitFault) → read unit ≡ failure why → ⊥
no_failure unit why e = cc

one_unit : (given : List ℕ) (why other : UnitFault) → LacksUnit given why → LacksUnit given other → why ≡ other
one_unit given why other h k = same_failure why other (sym h.unit ∙ ap length_unit (one_section given h.section k.section h.file k.file) ∙ k.unit)

unit_or_file : (given : List ℕ) (why : UnitFault) (other : StepFault) → LacksUnit given why → IsNoFile given other → ⊥
unit_or_file given why other h k = no_cause given h.file.head h.section.instances other h.file.accepted k.cause

one_kind : (given : List ℕ) (why other : FileFault) → Kind given why → Kind given other → why ≡ other
one_kind given _ _ (large h) (large k) = refl
one_kind given _ _ (large h) (no_file other k) = absurd (too_long (length given) k.small h)
one_kind given _ _ (large h) (no_unit other k) = absurd (too_long (length given) k.file.small h)
one_kind given _ _ (no_file why h) (large k) = absurd (too_long (length given) h.small k)
one_kind given _ _ (no_file why h) (no_file other k) = ap text_fault (one_cause given why other h.cause k.cause)
one_kind given _ _ (no_file why h) (no_unit other k) = absurd (unit_or_file given other why k h)
one_kind given _ _ (no_unit why h) (large k) = absurd (too_long (length given) h.file.small k)
one_kind given _ _ (no_unit why h) (no_file other k) = absurd (unit_or_file given why other h k)
one_kind given _ _ (no_unit why h) (no_unit other k) = ap unit_fault (one_unit given why other h k)

-- an input is refused for one reason
pub one_fault : (given : List ℕ) (why other : FileFault) → IsFaultOf given why → IsFaultOf given other → why ≡ other
one_fault given why other h k = one_kind given why other (kind_of given why h) (kind_of given other k)

no_kind : (given : List ℕ) (section : DataSection) (unit : ℤ) (why : FileFault) → IsInput given section unit → Kind given why → ⊥
no_kind given section unit _ h (large k) = too_long (length given) h.file.small k
no_kind given section unit _ h (no_file why k) = no_cause given h.file.head section.instances why h.file.accepted k.cause
no_kind given section unit _ h (no_unit why k) =
    no_failure unit why (sym h.measured ∙ ap length_unit (one_section given section k.section h.file k.file) ∙ k.unit)

-- and for none where it is converted
pub no_fault : (given : List ℕ) (section : DataSection) (unit : ℤ) (why : FileFault) → IsInput given section unit → IsFaultOf given why → ⊥
no_fault given section unit why h k = no_kind given section unit why h (kind_of given why k)

-- what converts a file has one answer
pub converting_one : (grid : ℕ) (only : Option ℕ) (format : Format) → HasOneAnswer (converting grid only format)
converting_one grid only format = record {
  answered = λ given page items why h fault. no_fault given h.section h.unit why h.input fault;
  taken = λ given why input fault. no_fault given input.0 input.1 why input.2 fault;
  one = one_fault;
}
