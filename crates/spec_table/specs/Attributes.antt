-- The attributes of an instance, and why one is not read. A number past 10^9 in size is a fault of this project.
use Rattle.std.specs.Prelude.{ℕ, ℤ, ◌-◌, nat_le, List, length, take, drop, Option, Some, None, is_some, Result, Ok, Err, if◌then◌else◌}
use Rattle.std.specs.Option.{option_and_then}
use Rattle.spec_num.specs.Decimals.{size_units, decimal_units, most_units}
use Rattle.spec_step.specs.Spans.{bytes_at}
use Rattle.spec_step.specs.declared.tree.Param.{Param, out-Param}
use Rattle.spec_step.specs.declared.tree.Param.TheOpen.{Param-F}
use Rattle.spec_step.specs.declared.tree.Param.TheOpen as layer
use Rattle.spec_table.specs.Sections.{DataSection, instance_of, param_of}
use Rattle.spec_table.specs.Innermost.{innermost, unless_unset}
use Rattle.spec_table.specs.declared.fault.AttrFault.{AttrFault}
use Rattle.spec_table.specs.declared.fault.AttrFault.TheVariants.{BadAttribute, Dangling, NumberTooLarge}

-- what is read, or why it is not
abbrev pub Reading : Type 0 → Type 0
Reading T = Result T AttrFault

-- How the parameter p is read, which stands in the attribute of an instance at a position.

-- a reference to an instance of the file
abbrev pub layer_ref : DataSection → ℕ → ℕ → Param-F Param → Reading ℕ
layer_ref section at position (layer.Reference n) = if is_some (instance_of section n) then Ok n else Err (Dangling at n)
layer_ref section at position x = Err (BadAttribute at position)

abbrev pub read_ref : DataSection → ℕ → ℕ → Param → Reading ℕ
read_ref section at position p = layer_ref section at position (out-Param (innermost p))

-- an integer or a real, in units of 10^-12
abbrev pub units_of : ℕ → List ℕ → Reading ℤ
units_of at text = if nat_le (size_units text) most_units then Ok (decimal_units text) else Err (NumberTooLarge at)

abbrev pub layer_real : DataSection → ℕ → ℕ → Param-F Param → Reading ℤ
layer_real section at position (layer.Int p) = units_of at (bytes_at section.text p)
layer_real section at position (layer.Real p) = units_of at (bytes_at section.text p)
layer_real section at position x = Err (BadAttribute at position)

abbrev pub read_real : DataSection → ℕ → ℕ → Param → Reading ℤ
read_real section at position p = layer_real section at position (out-Param (innermost p))

-- the bytes between the first and the last
abbrev pub inside : List ℕ → List ℕ
inside text = take (length text - 2) (drop 1 text)

-- the letters between the points of an enumeration
abbrev pub layer_enum : DataSection → ℕ → ℕ → Param-F Param → Reading (List ℕ)
layer_enum section at position (layer.Enumeration p) = Ok (inside (bytes_at section.text p))
layer_enum section at position x = Err (BadAttribute at position)

abbrev pub read_enum : DataSection → ℕ → ℕ → Param → Reading (List ℕ)
read_enum section at position p = layer_enum section at position (out-Param (innermost p))

-- the bytes between the quotes of a text, as they stand
abbrev pub layer_text : DataSection → ℕ → ℕ → Param-F Param → Reading (List ℕ)
layer_text section at position (layer.Text p) = Ok (inside (bytes_at section.text p))
layer_text section at position x = Err (BadAttribute at position)

abbrev pub read_text : DataSection → ℕ → ℕ → Param → Reading (List ℕ)
read_text section at position p = layer_text section at position (out-Param (innermost p))

-- the members of a list, as they stand
abbrev pub layer_list : ℕ → ℕ → Param-F Param → Reading (List Param)
layer_list at position (layer.List ps) = Ok ps
layer_list at position x = Err (BadAttribute at position)

abbrev pub read_list : ℕ → ℕ → Param → Reading (List Param)
read_list at position p = layer_list at position (out-Param (innermost p))

-- Attributes, which may be unset: $, * or no parameter at that position.

-- the parameter at a position, unless it is unset
abbrev pub attribute : DataSection → ℕ → ℕ → Option Param
attribute section at position = option_and_then unless_unset (param_of section at position)

abbrev pub some_of : {T : Type 0} → Reading T → Reading (Option T)
some_of (Ok x) = Ok (Some x)
some_of (Err fault) = Err fault

-- what is read of it, if it is set
abbrev pub if_set : {T : Type 0} → (Param → Reading T) → Option Param → Reading (Option T)
if_set read None = Ok None
if_set read (Some p) = some_of (read p)

abbrev pub attr_ref : DataSection → ℕ → ℕ → Reading (Option ℕ)
attr_ref section at position = if_set (read_ref section at position) (attribute section at position)

abbrev pub attr_real : DataSection → ℕ → ℕ → Reading (Option ℤ)
attr_real section at position = if_set (read_real section at position) (attribute section at position)

abbrev pub attr_enum : DataSection → ℕ → ℕ → Reading (Option (List ℕ))
attr_enum section at position = if_set (read_enum section at position) (attribute section at position)

abbrev pub attr_text : DataSection → ℕ → ℕ → Reading (Option (List ℕ))
attr_text section at position = if_set (read_text section at position) (attribute section at position)

abbrev pub attr_list : DataSection → ℕ → ℕ → Reading (Option (List Param))
attr_list section at position = if_set (read_list at position) (attribute section at position)
