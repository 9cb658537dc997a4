-- A file whose lengths are read, and the numbers that are (limits of this project).
use Rattle.std.specs.Prelude.{ℕ, ℤ, pos, Bool, true, ◌||◌, int_lt, List, Option, Some, None, Result, Ok, Err, codes}
use Rattle.std.specs.Ordering.{int_eq}
use Rattle.std.specs.Str.{str_eq_ignore_ascii_case}
use Rattle.spec_step.specs.declared.tree.Param.{Param}
use Rattle.spec_table.specs.Sections.{DataSection}
use Rattle.spec_table.specs.Attributes.{attr_real, attr_ref, attr_enum}
use Rattle.spec_place.specs.declared.fault.PlaceFault.{PlaceFault}
use Rattle.spec_place.specs.declared.fault.PlaceFault.TheVariants as place
use Rattle.spec_place.specs.Lengths.{length_of}
use Rattle.spec_refusal.specs.declared.Refusal.{Refusal}
use Rattle.spec_refusal.specs.declared.Refusal.TheVariants.{Curved, BadAttribute, NumberTooLarge, BadDirection, ScaleOutOfRange}
use Rattle.spec_refusal.specs.Reads.{Read, next, only_if}
use Rattle.spec_entity.specs.Reads.{as_read, wanted_value, wanted_number, number}

-- a file: its DATA section, its unit of length in nanometres, and the grid in micrometres on which its solids are wanted
pub record File : Type 0 where
  pub section : DataSection
  pub unit : ℤ
  pub grid : ℕ

-- Faults of placing, at an instance.

abbrev pub refusal_at : ℕ → PlaceFault → Refusal
refusal_at at place.ZeroDirection = BadDirection at
refusal_at at place.Parallel = BadDirection at
refusal_at at place.OffsetTooLarge = NumberTooLarge at
refusal_at at place.ScaleOutOfRange = ScaleOutOfRange at

abbrev pub placed : {T : Type 0} → ℕ → Result T PlaceFault → Read T
placed at (Ok x) = Ok x
placed at (Err fault) = Err (refusal_at at fault)

-- What may be unset.

-- what a set attribute is read as
abbrev pub if_some : {T U : Type 0} → (T → Read U) → Option T → Read (Option U)
if_some read None = Ok None
if_some read (Some x) = next (read x) (λ y. Ok (Some y))

abbrev pub found : {T : Type 0} → Refusal → Option T → Read T
found refusal None = Err refusal
found refusal (Some x) = Ok x

-- Lengths and other numbers.

abbrev pub length_within : File → ℕ → ℤ → Read ℤ
length_within file at v = found (NumberTooLarge at) (length_of file.unit v)

-- a length of a list, in nanometres
abbrev pub length : File → ℕ → ℕ → Param → Read ℤ
length file at position p = next (number file.section at position p) (length_within file at)

-- positive length at a position
abbrev pub positive : File → ℕ → ℕ → Read ℤ
positive file at position =
    next (wanted_number file.section at position) (λ v. only_if (int_lt (pos 0) v) (BadAttribute at position) (length_within file at v))

abbrev pub is_zero_or_none : Option ℤ → Bool
is_zero_or_none None = true
is_zero_or_none (Some v) = int_eq v (pos 0)

-- zero at a position: unset, or the number 0
abbrev pub zero : DataSection → ℕ → ℕ → Read (Unit {0})
zero section at position = next (as_read (attr_real section at position)) (λ o. only_if (is_zero_or_none o) (Curved at) (Ok tt))

-- a number at a position, or another value where it is unset
abbrev pub number_if_set : DataSection → ℕ → ℕ → Read (Option ℤ)
number_if_set section at position = as_read (attr_real section at position)

-- Enumerations and references.

abbrev pub is_word : List ℕ → List ℕ → Bool
is_word word text = str_eq_ignore_ascii_case text word

-- a boolean at a position
abbrev pub boolean_named : ℕ → ℕ → List ℕ → Read Bool
boolean_named at position text =
    only_if (is_word (codes "T") text || is_word (codes "F") text) (BadAttribute at position) (Ok (is_word (codes "T") text))

abbrev pub boolean : DataSection → ℕ → ℕ → Read Bool
boolean section at position = next (wanted_value at position (attr_enum section at position)) (boolean_named at position)

-- the number of the instance that a wanted attribute names, of whatever kind
abbrev pub wanted_instance : DataSection → ℕ → ℕ → Read ℕ
wanted_instance section at position = wanted_value at position (attr_ref section at position)
