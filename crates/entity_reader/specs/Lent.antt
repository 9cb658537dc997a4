-- Answers that lend parts of a table.
use Rattle.std.specs.Prelude.{Result, Ok, Err}
use Rattle.std.specs.Borrow.{Bor}
use Rattle.spec_refusal.specs.declared.Refusal.{Refusal}
use Rattle.spec_refusal.specs.Reads.{Read}

abbrev pub plain_read : {T : Type 0} → Result (Bor T) Refusal → Read T
plain_read (Ok x) = Ok x.now
plain_read (Err refusal) = Err refusal
