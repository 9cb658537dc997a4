-- The answers that lend parts of a table.
use Rattle.std.specs.Prelude.{Option, Result, Ok, Err}
use Rattle.std.specs.Borrow.{Bor}
use Rattle.std.specs.Option.{option_copied}
use Rattle.spec_table.specs.declared.fault.AttrFault.{AttrFault}
use Rattle.spec_table.specs.Attributes.{Reading}

-- what is lent, or why nothing is read
abbrev pub as_reading : {T : Type 0} → Result (Bor T) AttrFault → Reading T
as_reading (Ok x) = Ok x.now
as_reading (Err fault) = Err fault

-- the same of an attribute that may be unset
abbrev pub as_reading_if_set : {T : Type 0} → Result (Option (Bor T)) AttrFault → Reading (Option T)
as_reading_if_set (Ok o) = Ok (option_copied o)
as_reading_if_set (Err fault) = Err fault
