-- The statuses: their numbers, and which of them stand for what is done.
use Rattle.std.specs.Prelude.{ℕ, Bool, true, false}
use Rattle.ix_words.specs.declared.status.Status.{Status}
use Rattle.ix_words.specs.declared.status.Status.TheVariants.{Done, SomeRefused, FileRefused, ReadFault, WriteFault, NoMemory, Usage, CheckFailed}

abbrev pub code_of : Status → ℕ
code_of Done = 0
code_of SomeRefused = 1
code_of FileRefused = 2
code_of ReadFault = 3
code_of WriteFault = 4
code_of NoMemory = 5
code_of Usage = 6
code_of CheckFailed = 7

-- all is done, but for elements that are refused by their own lines
abbrev pub is_done : Status → Bool
is_done Done = true
is_done SomeRefused = true
is_done FileRefused = false
is_done ReadFault = false
is_done WriteFault = false
is_done NoMemory = false
is_done Usage = false
is_done CheckFailed = false
