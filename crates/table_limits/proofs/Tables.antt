-- What is read of a table of instances, if its numbers are short.
use Rattle.std.proofs.Common.{ℕ, ◌-◌, zero, suc, Bool, true, false, if◌then◌else◌, cond, List, [], ◌∷◌, Option, Some, None, Ok, Err, IfSome, is_some, slice_get, nat_le, ◌==◌}
use Rattle.std.specs.List.{find}
use Rattle.std.specs.Option.{option_and_then}
use Rattle.spec_num.specs.Decimals.{size_units, decimal_units, most_units}
use Rattle.spec_step.specs.Spans.{bytes_at}
use Rattle.spec_step.specs.declared.tree.Param.{Param, out-Param}
use Rattle.spec_step.specs.declared.tree.Param.TheOpen.{Param-F}
use Rattle.spec_step.specs.declared.tree.Param.TheOpen as layer
use Rattle.spec_step.specs.declared.tree.Body.{Body}
use Rattle.spec_step.specs.declared.tree.Body.TheVariants.{Simple, Complex}
use Rattle.spec_step.specs.declared.tree.Instance.{Instance}
use Rattle.spec_table.specs.Sections.{DataSection, instance_of, param_in, param_of}
use Rattle.spec_table.specs.Innermost.{innermost, layer_unless_unset, unless_unset}
use Rattle.spec_table.specs.Attributes.{Reading, layer_ref, read_ref, units_of, layer_real, read_real, layer_enum, read_enum, layer_text, read_text, layer_list, read_list, attribute, some_of, if_set, attr_ref, attr_real, attr_enum, attr_text, attr_list}
use Rattle.spec_table.specs.declared.fault.AttrFault.TheVariants as fault
use Rattle.spec_entity.specs.Reads.{as_read, wanted_value}
use Rattle.spec_check.specs.Limits.{IsShort}
use Rattle.table_limits.proofs.Kept.{IsKept, Each, read, refused}
use Rattle.table_limits.proofs.Trees.{IsShortParam, IsShortList, IsShortLayer, inner_layer}

abbrev pub IsShortBody : Body → Type 0
IsShortBody (Simple e) = Each IsShortParam e.params
IsShortBody (Complex es) = Unit {0}

-- the number of an instance and those to which it refers
pub record IsShortInstance (i : Instance) : Type 0 where
  pub number : IsShort i.number
  pub body : IsShortBody i.body

-- no number of the section has more than 18 digits
abbrev pub IsShortSection : DataSection → Type 0
IsShortSection section = Each IsShortInstance section.instances

abbrev pub Any : {T : Type 0} → T → Type 0
Any x = Unit {0}

-- Lists.

one_of : {X : Type 0} (P : X → Type 0) (b : Bool) (x : X) (o : Option X) → P x → IfSome o P → IfSome (cond b (Some x) o) P
one_of P true x o h k = h
one_of P false x o h k = k

pub found_each : {X : Type 0} (P : X → Type 0) (test : X → Bool) (xs : List X) → Each P xs → IfSome (find test xs) P
found_each P test [] h = tt
found_each P test (x ∷ xs) h = one_of P (test x) x (find test xs) h.0 (found_each P test xs h.1)

got_each : {X : Type 0} (P : X → Type 0) (xs : List X) (i : ℕ) → Each P xs → IfSome (slice_get xs i) P
got_each P [] i h = tt
got_each P (x ∷ xs) zero h = h.0
got_each P (x ∷ xs) (suc i) h = got_each P xs i h.1

-- Attributes.

param_in_short : (position : ℕ) (b : Body) → IsShortBody b → IfSome (param_in position b) IsShortParam
param_in_short position (Simple e) h = got_each IsShortParam e.params (position - 1) h
param_in_short position (Complex es) h = tt

param_short : (position : ℕ) (o : Option Instance) → IfSome o IsShortInstance → IfSome (option_and_then (λ i. param_in position i.body) o) IsShortParam
param_short position None h = tt
param_short position (Some i) h = param_in_short position i.body h.body

set_layer : (p : Param) (x : Param-F Param) → IsShortParam p → IfSome (layer_unless_unset p x) IsShortParam
set_layer p layer.Unset h = tt
set_layer p layer.Derived h = tt
set_layer p (layer.Int s) h = h
set_layer p (layer.Real s) h = h
set_layer p (layer.Text s) h = h
set_layer p (layer.Enumeration s) h = h
set_layer p (layer.Binary s) h = h
set_layer p (layer.Reference n) h = h
set_layer p (layer.List ps) h = h
set_layer p (layer.Typed k q) h = h

set_short : (o : Option Param) → IfSome o IsShortParam → IfSome (option_and_then unless_unset o) IsShortParam
set_short None h = tt
set_short (Some p) h = set_layer p (out-Param (innermost p)) h

pub attribute_short : (section : DataSection) (at position : ℕ) → IsShortSection section → IfSome (attribute section at position) IsShortParam
attribute_short section at position h =
    set_short (param_of section at position)
    (param_short position (instance_of section at) (found_each IsShortInstance (λ i. i.number == at) section.instances h))

-- Parameters.

wrong_kind : {T : Type 0} {P : T → Type 0} (at position : ℕ) → IsShort at → IsShort position → IsKept P (as_read (Err (fault.BadAttribute at position)))
wrong_kind at position a p = refused (a, p)

ref_found : (b : Bool) (at n : ℕ) → IsShort at → IsShort n → IsKept IsShort (as_read (if b then Ok n else Err (fault.Dangling at n)))
ref_found true at n a h = read h
ref_found false at n a h = refused (a, h)

ref_layer : (section : DataSection) (at position : ℕ) (x : Param-F Param) → IsShort at → IsShort position → IsShortLayer x → IsKept IsShort (as_read (layer_ref section at position x))
ref_layer section at position (layer.Reference n) a p h = ref_found (is_some (instance_of section n)) at n a h
ref_layer section at position layer.Unset a p h = wrong_kind at position a p
ref_layer section at position layer.Derived a p h = wrong_kind at position a p
ref_layer section at position (layer.Int s) a p h = wrong_kind at position a p
ref_layer section at position (layer.Real s) a p h = wrong_kind at position a p
ref_layer section at position (layer.Text s) a p h = wrong_kind at position a p
ref_layer section at position (layer.Enumeration s) a p h = wrong_kind at position a p
ref_layer section at position (layer.Binary s) a p h = wrong_kind at position a p
ref_layer section at position (layer.List ps) a p h = wrong_kind at position a p
ref_layer section at position (layer.Typed k q) a p h = wrong_kind at position a p

pub ref_kept : (section : DataSection) (at position : ℕ) (q : Param) → IsShort at → IsShort position → IsShortParam q → IsKept IsShort (as_read (read_ref section at position q))
ref_kept section at position q a p h = ref_layer section at position (out-Param (innermost q)) a p (inner_layer q h)

units_kept : (at : ℕ) (text : List ℕ) → IsShort at → IsKept Any (as_read (units_of at text))
units_kept at text a = pick (nat_le (size_units text) most_units)
  where
    pick : (b : Bool) → IsKept Any (as_read (if b then Ok (decimal_units text) else Err (fault.NumberTooLarge at)))
    pick true = read tt
    pick false = refused a

real_layer : (section : DataSection) (at position : ℕ) (x : Param-F Param) → IsShort at → IsShort position → IsKept Any (as_read (layer_real section at position x))
real_layer section at position (layer.Int s) a p = units_kept at (bytes_at section.text s) a
real_layer section at position (layer.Real s) a p = units_kept at (bytes_at section.text s) a
real_layer section at position layer.Unset a p = wrong_kind at position a p
real_layer section at position layer.Derived a p = wrong_kind at position a p
real_layer section at position (layer.Text s) a p = wrong_kind at position a p
real_layer section at position (layer.Enumeration s) a p = wrong_kind at position a p
real_layer section at position (layer.Binary s) a p = wrong_kind at position a p
real_layer section at position (layer.Reference n) a p = wrong_kind at position a p
real_layer section at position (layer.List ps) a p = wrong_kind at position a p
real_layer section at position (layer.Typed k q) a p = wrong_kind at position a p

pub real_kept : (section : DataSection) (at position : ℕ) (q : Param) → IsShort at → IsShort position → IsKept Any (as_read (read_real section at position q))
real_kept section at position q a p = real_layer section at position (out-Param (innermost q)) a p

enum_layer : (section : DataSection) (at position : ℕ) (x : Param-F Param) → IsShort at → IsShort position → IsKept Any (as_read (layer_enum section at position x))
enum_layer section at position (layer.Enumeration s) a p = read tt
enum_layer section at position layer.Unset a p = wrong_kind at position a p
enum_layer section at position layer.Derived a p = wrong_kind at position a p
enum_layer section at position (layer.Int s) a p = wrong_kind at position a p
enum_layer section at position (layer.Real s) a p = wrong_kind at position a p
enum_layer section at position (layer.Text s) a p = wrong_kind at position a p
enum_layer section at position (layer.Binary s) a p = wrong_kind at position a p
enum_layer section at position (layer.Reference n) a p = wrong_kind at position a p
enum_layer section at position (layer.List ps) a p = wrong_kind at position a p
enum_layer section at position (layer.Typed k q) a p = wrong_kind at position a p

text_layer : (section : DataSection) (at position : ℕ) (x : Param-F Param) → IsShort at → IsShort position → IsKept Any (as_read (layer_text section at position x))
text_layer section at position (layer.Text s) a p = read tt
text_layer section at position layer.Unset a p = wrong_kind at position a p
text_layer section at position layer.Derived a p = wrong_kind at position a p
text_layer section at position (layer.Int s) a p = wrong_kind at position a p
text_layer section at position (layer.Real s) a p = wrong_kind at position a p
text_layer section at position (layer.Enumeration s) a p = wrong_kind at position a p
text_layer section at position (layer.Binary s) a p = wrong_kind at position a p
text_layer section at position (layer.Reference n) a p = wrong_kind at position a p
text_layer section at position (layer.List ps) a p = wrong_kind at position a p
text_layer section at position (layer.Typed k q) a p = wrong_kind at position a p

list_layer : (at position : ℕ) (x : Param-F Param) → IsShort at → IsShort position → IsShortLayer x → IsKept IsShortList (as_read (layer_list at position x))
list_layer at position (layer.List ps) a p h = read h
list_layer at position layer.Unset a p h = wrong_kind at position a p
list_layer at position layer.Derived a p h = wrong_kind at position a p
list_layer at position (layer.Int s) a p h = wrong_kind at position a p
list_layer at position (layer.Real s) a p h = wrong_kind at position a p
list_layer at position (layer.Text s) a p h = wrong_kind at position a p
list_layer at position (layer.Enumeration s) a p h = wrong_kind at position a p
list_layer at position (layer.Binary s) a p h = wrong_kind at position a p
list_layer at position (layer.Reference n) a p h = wrong_kind at position a p
list_layer at position (layer.Typed k q) a p h = wrong_kind at position a p

pub list_kept : (at position : ℕ) (q : Param) → IsShort at → IsShort position → IsShortParam q → IsKept IsShortList (as_read (read_list at position q))
list_kept at position q a p h = list_layer at position (out-Param (innermost q)) a p (inner_layer q h)

-- Attributes that may be unset, and those that may not.

abbrev pub IfSet : {T : Type 0} → (T → Type 0) → Option T → Type 0
IfSet P o = IfSome o P

some_kept : {T : Type 0} (P : T → Type 0) (r : Reading T) → IsKept P (as_read r) → IsKept (IfSet P) (as_read (some_of r))
some_kept P (Ok x) h = read h.value
some_kept P (Err why) h = refused h.refusal

set_kept : {T : Type 0} (P : T → Type 0) (go_on : Param → Reading T) (o : Option Param) → IfSome o IsShortParam → ((q : Param) → IsShortParam q → IsKept P (as_read (go_on q))) → IsKept (IfSet P) (as_read (if_set go_on o))
set_kept P go_on None h k = read tt
set_kept P go_on (Some q) h k = some_kept P (go_on q) (k q h)

pub wanted_kept : {T : Type 0} {P : T → Type 0} (at position : ℕ) (r : Reading (Option T)) → IsShort at → IsShort position → IsKept (IfSet P) (as_read r) → IsKept P (wanted_value at position r)
wanted_kept at position (Ok (Some x)) a p h = read h.value
wanted_kept at position (Ok None) a p h = refused (a, p)
wanted_kept at position (Err why) a p h = refused h.refusal

module _ (section : DataSection) (short : IsShortSection section) (at position : ℕ) (a : IsShort at) (p : IsShort position) where
  abbrev set : Option Param
  set = attribute section at position

  pub attr_ref_kept : IsKept (IfSet IsShort) (as_read (attr_ref section at position))
  attr_ref_kept = set_kept IsShort (read_ref section at position) set (attribute_short section at position short) (λ q h. ref_kept section at position q a p h)

  pub attr_real_kept : IsKept (IfSet Any) (as_read (attr_real section at position))
  attr_real_kept = set_kept Any (read_real section at position) set (attribute_short section at position short) (λ q h. real_kept section at position q a p)

  pub attr_enum_kept : IsKept (IfSet Any) (as_read (attr_enum section at position))
  attr_enum_kept = set_kept Any (read_enum section at position) set (attribute_short section at position short) (λ q h. enum_layer section at position (out-Param (innermost q)) a p)

  pub attr_text_kept : IsKept (IfSet Any) (as_read (attr_text section at position))
  attr_text_kept = set_kept Any (read_text section at position) set (attribute_short section at position short) (λ q h. text_layer section at position (out-Param (innermost q)) a p)

  pub attr_list_kept : IsKept (IfSet IsShortList) (as_read (attr_list section at position))
  attr_list_kept = set_kept IsShortList (read_list at position) set (attribute_short section at position short) (λ q h. list_kept at position q a p h)
