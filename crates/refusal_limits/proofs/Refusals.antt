-- Every refusal of an element of an accepted file keeps the limits of what a page holds, and the elements have short numbers.
use Rattle.std.proofs.Common.{◌≡◌, ◌≤◌, ◌^◌, ℕ, List, [], ◌∷◌, length, All, Option, Some, None, Ok, Err, subst, arith}
use Rattle.std.proofs.lemmas.List.Elements.{All-cons, All-contains}
use Rattle.std.specs.List.{Contains}
use Rattle.spec_step.specs.Files.{IsAccepted}
use Rattle.spec_step.specs.declared.tree.Entry.{Entry}
use Rattle.spec_table.specs.Sections.{DataSection}
use Rattle.spec_place.specs.declared.transform.Transform.{Transform}
use Rattle.spec_solid.specs.Solids.{Body}
use Rattle.spec_refusal.specs.declared.Refusal.{Refusal}
use Rattle.spec_refusal.specs.Reads.{Read}
use Rattle.spec_shape.specs.Shapes.{ElementShape}
use Rattle.spec_entity.specs.Elements.{elements}
use Rattle.spec_geometry.specs.Files.{File}
use Rattle.spec_geometry.specs.Elements.{element_body}
use Rattle.spec_grid.specs.Rounded.{round_element}
use Rattle.spec_outcome.specs.Outcomes.{Outcome, Bodyless, Faulty, Solid, rounded_outcome, outcome_of, outcome}
use Rattle.spec_check.specs.Limits.{IsShort, IsRefusalWithin}
use Rattle.table_limits.proofs.Kept.{IsKept, Each}
use Rattle.table_limits.proofs.Tables.{IsShortSection, Any, IfSet}
use Rattle.table_limits.proofs.Entities.{elements_short}
use Rattle.refusal_limits.proofs.Elements.{IsShortElement, element_kept}
use Rattle.refusal_limits.proofs.Rounded.{rounded_kept}
use Rattle.table_limits.proofs.Spellings.{accepted_short}

-- an outcome that refuses keeps the limits
abbrev pub IsOutcomeWithin : Outcome → Type 0
IsOutcomeWithin Bodyless = Unit {0}
IsOutcomeWithin (Faulty why) = IsRefusalWithin why
IsOutcomeWithin (Solid frame body) = Unit {0}

all_of : {X : Type 0} (P : X → Type 0) (xs : List X) → Each P xs → All P xs
all_of P [] h = λ k d lt. absurd (omega (arith, lt))
all_of P (x ∷ xs) h = All-cons P x xs h.0 (all_of P xs h.1)

rounded_within : (frame : Transform) (r : Read Body) → IsKept Any r → IsOutcomeWithin (rounded_outcome frame r)
rounded_within frame (Ok body) h = tt
rounded_within frame (Err why) h = h.refusal

read_within : (grid : ℕ) (r : Read (Option ElementShape)) → IsKept (IfSet IsShortElement) r → IsOutcomeWithin (outcome_of grid r)
read_within grid (Ok None) h = tt
read_within grid (Ok (Some e)) h = rounded_within e.frame (round_element grid e) (rounded_kept grid e h.value)
read_within grid (Err why) h = h.refusal

-- for a section with short numbers

pub outcome_within : (file : File) → IsShortSection file.section → (n : ℕ) → IsShort n → IsOutcomeWithin (outcome file n)
outcome_within file short n h = read_within file.grid (element_body file n) (element_kept file short n h)

-- for the section of an accepted file

-- the numbers of the elements have at most 18 digits
pub numbers_within : (given : List ℕ) (section : DataSection) (head : List Entry) → IsAccepted given head section.instances → length given ≤ 2 ^ 27 → All IsShort (elements section)
numbers_within given section head accepted small = all_of IsShort (elements section) (elements_short section (accepted_short given section head accepted small))

pub number_within : (given : List ℕ) (section : DataSection) (head : List Entry) → IsAccepted given head section.instances → length given ≤ 2 ^ 27
    → (n : ℕ) → Contains (elements section) n → IsShort n
number_within given section head accepted small n among = All-contains IsShort (elements section) n (numbers_within given section head accepted small) among

-- an element is refused, by its reading or by its rounding, within the limits
pub refusal_within : (given : List ℕ) (file : File) (head : List Entry) → IsAccepted given head file.section.instances → length given ≤ 2 ^ 27
    → (n : ℕ) → Contains (elements file.section) n → (why : Refusal) → outcome file n ≡ Faulty why → IsRefusalWithin why
refusal_within given file head accepted small n among why is =
    subst IsOutcomeWithin is (outcome_within file (accepted_short given file.section head accepted small) n (number_within given file.section head accepted small n among))
