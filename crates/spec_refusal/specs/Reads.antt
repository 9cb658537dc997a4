-- Answers in order: what is found, or the first refusal.
use Rattle.std.specs.Prelude.{Bool, true, false, Result, Ok, Err}
use Rattle.spec_refusal.specs.declared.Refusal.{Refusal}

abbrev pub Read : Type 0 → Type 0
Read T = Result T Refusal

-- first this, and then what follows from it
abbrev pub next : {T U : Type 0} → Read T → (T → Read U) → Read U
next (Ok x) go_on = go_on x
next (Err refusal) go_on = Err refusal

-- this, if the test is passed
abbrev pub only_if : {T : Type 0} → Bool → Refusal → Read T → Read T
only_if true refusal go_on = go_on
only_if false refusal go_on = Err refusal
