-- What a STEP file is as an input: one that is converted, or one that is refused, and why.
use Rattle.std.specs.Prelude.{◌≡◌, ℕ, ℤ, ◌^◌, ◌≤◌, ◌<◌, List, ◌++◌, length, Ok, Err, codes}
use Rattle.std.specs.Fmt.{decimal}
use Rattle.spec_step.specs.declared.tree.Entry.{Entry}
use Rattle.spec_step.specs.declared.fault.StepFault.{StepFault}
use Rattle.spec_step.specs.declared.fault.StepFault.TheVariants as step
use Rattle.spec_step.specs.Files.{IsAccepted, IsCause}
use Rattle.spec_table.specs.Sections.{DataSection}
use Rattle.spec_geometry.specs.Units.{length_unit}
use Rattle.spec_refusal.specs.declared.UnitFault.{UnitFault}
use Rattle.spec_refusal.specs.declared.UnitFault.TheVariants as unit
use Rattle.spec_run.specs.declared.FileFault.{FileFault}
use Rattle.spec_run.specs.declared.FileFault.TheVariants.{TooLarge, Syntax, Nested, Schema, DuplicateNumber, NoProject, NoLengthUnit}

-- the greatest number of bytes that are read
abbrev pub most_bytes : ℕ
most_bytes = 2 ^ 27

-- the bytes are a STEP file that passes the checks, and this is its DATA section
pub record IsFileWith (given : List ℕ) (section : DataSection) : Type 0 where
  pub small : length given ≤ most_bytes
  pub text : section.text ≡ given
  pub head : List Entry
  pub accepted : IsAccepted given head section.instances

-- such a file with a project and a unit of length that is read, in nanometres: its elements are converted, or named by their
-- own lines
pub record IsInput (given : List ℕ) (section : DataSection) (unit : ℤ) : Type 0 where
  pub file : IsFileWith given section
  pub measured : length_unit section ≡ Ok unit

-- the bytes are such an input
abbrev pub IsFileInput : List ℕ → Type 0
IsFileInput given = (section : DataSection) × (unit : ℤ) × IsInput given section unit

-- the text is no file, or does not pass the checks
pub record IsNoFile (given : List ℕ) (why : StepFault) : Type 0 where
  pub small : length given ≤ most_bytes
  pub cause : IsCause given why

-- the file passes the checks, and has no unit of length that is read
pub record LacksUnit (given : List ℕ) (why : UnitFault) : Type 0 where
  pub section : DataSection
  pub file : IsFileWith given section
  pub unit : length_unit section ≡ Err why

-- why these bytes are refused as a file: exactly one of these holds of bytes that are no file that is converted
abbrev pub IsFaultOf : List ℕ → FileFault → Type 0
IsFaultOf given TooLarge = most_bytes < length given
IsFaultOf given (Syntax at) = IsNoFile given (step.Syntax at)
IsFaultOf given (Nested at) = IsNoFile given (step.Nested at)
IsFaultOf given Schema = IsNoFile given step.Schema
IsFaultOf given (DuplicateNumber n first second) = IsNoFile given (step.DuplicateNumber n first second)
IsFaultOf given NoProject = LacksUnit given unit.NoProject
IsFaultOf given NoLengthUnit = LacksUnit given unit.NoLengthUnit

abbrev pub fault_text : FileFault → List ℕ
fault_text TooLarge = codes "FileTooLarge"
fault_text (Syntax at) = codes "Syntax at " ++ decimal at
fault_text (Nested at) = codes "Nested at " ++ decimal at
fault_text Schema = codes "Schema"
fault_text (DuplicateNumber n first second) = codes "DuplicateNumber " ++ decimal n ++ codes " at " ++ decimal first ++ codes " and " ++ decimal second
fault_text NoProject = codes "NoProject"
fault_text NoLengthUnit = codes "NoLengthUnit"
