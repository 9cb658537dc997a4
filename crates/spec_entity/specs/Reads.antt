-- Reading in order: what is read, or the first refusal.
use Rattle.std.specs.Prelude.{ℕ, ℤ, Bool, false, List, [], ◌∷◌, map, Option, Some, None, Ok, Err}
use Rattle.std.specs.List.{list_any}
use Rattle.spec_step.specs.Spans.{bytes_at}
use Rattle.spec_step.specs.declared.tree.Param.{Param}
use Rattle.spec_step.specs.declared.tree.Body.{Body}
use Rattle.spec_step.specs.declared.tree.Body.TheVariants.{Simple, Complex}
use Rattle.spec_step.specs.declared.tree.Instance.{Instance}
use Rattle.spec_table.specs.Sections.{DataSection, instance_of}
use Rattle.spec_table.specs.Attributes.{Reading, attr_ref, attr_real, attr_list, read_ref, read_real}
use Rattle.spec_table.specs.declared.fault.AttrFault.{AttrFault}
use Rattle.spec_table.specs.declared.fault.AttrFault.TheVariants as fault
use Rattle.ifc_kinds.specs.Keywords.{is_keyword}
use Rattle.ifc_kinds.specs.declared.kind.Kind.{Kind}
use Rattle.spec_refusal.specs.Reads.{Read, next, only_if}
use Rattle.spec_refusal.specs.declared.Refusal.{Refusal}
use Rattle.spec_refusal.specs.declared.Refusal.TheVariants.{Unsupported, BadAttribute, Dangling, NumberTooLarge}

abbrev pub refusal_of : AttrFault → Refusal
refusal_of (fault.BadAttribute at position) = BadAttribute at position
refusal_of (fault.Dangling at number) = Dangling at number
refusal_of (fault.NumberTooLarge at) = NumberTooLarge at

abbrev pub as_read : {T : Type 0} → Reading T → Read T
as_read (Ok x) = Ok x
as_read (Err f) = Err (refusal_of f)

-- an attribute that must be set
abbrev pub wanted_value : {T : Type 0} → ℕ → ℕ → Reading (Option T) → Read T
wanted_value at position (Ok (Some x)) = Ok x
wanted_value at position (Ok None) = Err (BadAttribute at position)
wanted_value at position (Err f) = Err (refusal_of f)

-- The instances of a file by their numbers.

-- the numbers of the instances, in file order
abbrev pub numbers_of : DataSection → List ℕ
numbers_of section = map (λ i. i.number) section.instances

-- Kinds.

abbrev pub body_has_kind : List ℕ → Kind → Body → Bool
body_has_kind text k (Simple e) = is_keyword k (bytes_at text e.keyword)
body_has_kind text k (Complex es) = false

abbrev pub instance_has_kind : List ℕ → Kind → Option Instance → Bool
instance_has_kind text k (Some i) = body_has_kind text k i.body
instance_has_kind text k None = false

-- the instance has one entry with the keyword of the kind
abbrev pub has_kind : DataSection → ℕ → Kind → Bool
has_kind section n k = instance_has_kind section.text k (instance_of section n)

-- the instance has one of these kinds
abbrev pub is_one_of : DataSection → List Kind → ℕ → Bool
is_one_of section kinds n = list_any (has_kind section n) kinds

abbrev pub instance_of_kinds : DataSection → List Kind → ℕ → Read ℕ
instance_of_kinds section kinds n = only_if (is_one_of section kinds n) (Unsupported n) (Ok n)

-- References, lists and numbers.

-- the instance that a wanted attribute names, of one of these kinds
abbrev pub named_instance : DataSection → List Kind → ℕ → ℕ → Read ℕ
named_instance section kinds at position = next (wanted_value at position (attr_ref section at position)) (instance_of_kinds section kinds)

-- the instance that a member of a list names
abbrev pub member_instance : DataSection → ℕ → ℕ → Param → Read ℕ
member_instance section at position p = as_read (read_ref section at position p)

abbrev pub if_any : {X : Type 0} → ℕ → ℕ → List X → Read (List X)
if_any at position [] = Err (BadAttribute at position)
if_any at position (x ∷ xs) = Ok (x ∷ xs)

-- the members of a wanted list, of which there must be one
abbrev pub members : DataSection → ℕ → ℕ → Read (List Param)
members section at position = next (wanted_value at position (attr_list section at position)) (if_any at position)

-- each of them, in order
abbrev pub each : {X T : Type 0} → (X → Read T) → List X → Read (List T)
each read [] = Ok []
each read (x ∷ xs) = next (read x) (λ y. next (each read xs) (λ ys. Ok (y ∷ ys)))

-- a number of a list, in units of 10^-12
abbrev pub number : DataSection → ℕ → ℕ → Param → Read ℤ
number section at position p = as_read (read_real section at position p)

-- a wanted number, in units of 10^-12
abbrev pub wanted_number : DataSection → ℕ → ℕ → Read ℤ
wanted_number section at position = wanted_value at position (attr_real section at position)
