-- What a run finds before it writes, with its cause.
use Rattle.std.specs.Prelude.{◌≡◌, ℕ, Bool, true, false, ◌&&◌, ◌||◌, IsTrue, List, [], ◌∷◌, ◌++◌, Option, Some, IfSome, ⊤, codes}
use Rattle.spec_outside.specs.Causes.{Rose, IsEmptied}
use Rattle.ix_words.specs.declared.status.Status.{Status}
use Rattle.ix_words.specs.declared.status.Status.TheVariants as status
use Rattle.ix_words.specs.Statuses.{is_done}
use Rattle.spec_run.specs.Changes.{Change}
use Rattle.spec_run.specs.Task.{Task}

-- the answer of a task; a refused input; a fault of reading; want of memory
pub data Finding (t : Task) : Type 0 where
  Answered : t.Answer → Finding t
  Refused : t.Fault → Finding t
  ReadFault : Finding t
  NoMemory : Finding t

abbrev pub status_of : (t : Task) → Finding t → Status
status_of t (Answered a) = t.status a
status_of t (Refused why) = status.FileRefused
status_of t ReadFault = status.ReadFault
status_of t NoMemory = status.NoMemory

abbrev pub report_of : (t : Task) → Finding t → List ℕ
report_of t (Answered a) = t.report a
report_of t (Refused why) = codes "refused " ++ t.reason why ++ 10 ∷ []
report_of t ReadFault = codes "read fault\n"
report_of t NoMemory = codes "want of memory\n"

-- the page is put to the output: where the task puts it, and all is done
abbrev pub is_put : (t : Task) → Finding t → Bool
is_put t (Answered a) = t.puts && is_done (t.status a)
is_put t (Refused why) = false
is_put t ReadFault = false
is_put t NoMemory = false

-- The cause.

-- what a task is given: the bytes of the source, where it tells them; no bytes, where the task does not read
abbrev pub given_to : Bool → Option (List ℕ) → Option (List ℕ)
given_to true had = had
given_to false had = Some []

-- a task that reads has read the source to its end, and no fault came; one that does not has left it as it was
abbrev pub IsReadWhole : Bool → Change → Type 0
IsReadWhole true src = IsEmptied src.before.bytes src.after.bytes × (src.after.faults ≡ src.before.faults)
IsReadWhole false src = src.same

-- no fault came
abbrev pub IsCalm : Bool → Change → Type 0
IsCalm true src = src.after.faults ≡ src.before.faults
IsCalm false src = src.same

-- a fault of the source came, which was read
abbrev pub HasFailed : Bool → Change → Type 0
HasFailed true src = Rose src.before.faults src.after.faults
HasFailed false src = ⊥

-- where no page is made, it is empty
abbrev pub IsMadeIf : Bool → List ℕ → Type 0
IsMadeIf true page = ⊤
IsMadeIf false page = page ≡ []

-- Memory can be wanting only of a task that reads or makes something.
abbrev pub HasCause : (t : Task) → Change → List ℕ → Finding t → Type 0
HasCause t src page (Answered a) = IfSome (given_to t.reads src.before.bytes) (λ given. t.IsAnswer given page a × t.IsSound page) × IsMadeIf t.makes page × IsReadWhole t.reads src
HasCause t src page (Refused why) = IfSome (given_to t.reads src.before.bytes) (λ given. t.IsRefused given why) × (page ≡ []) × IsCalm t.reads src
HasCause t src page ReadFault = HasFailed t.reads src × (page ≡ [])
HasCause t src page NoMemory = IsTrue (t.reads || t.makes) × IsMadeIf t.makes page × IsCalm t.reads src

-- an answer, or else a fault of reading, or want of memory
abbrev pub IsAnswerOrWants : (t : Task) → Finding t → Type 0
IsAnswerOrWants t (Answered a) = ⊤
IsAnswerOrWants t (Refused why) = ⊥
IsAnswerOrWants t ReadFault = ⊤
IsAnswerOrWants t NoMemory = ⊤

-- a refusal for this reason, or else a fault of reading, or want of memory
abbrev pub IsReasonOrWants : (t : Task) → t.Fault → Finding t → Type 0
IsReasonOrWants t why (Answered a) = ⊥
IsReasonOrWants t why (Refused other) = other ≡ why
IsReasonOrWants t why ReadFault = ⊤
IsReasonOrWants t why NoMemory = ⊤

-- it has its cause; an input that the task takes has its answer, and any other is refused for its one reason
pub record IsFound (t : Task) (src : Change) (page : List ℕ) (found : Finding t) : Type 0 where
  pub cause : HasCause t src page found
  pub answers : IfSome (given_to t.reads src.before.bytes) (λ given. t.IsTaken given → IsAnswerOrWants t found)
  pub refuses : IfSome (given_to t.reads src.before.bytes) (λ given. (why : t.Fault) → t.IsRefused given why → IsReasonOrWants t why found)

-- What is made.

-- the page that a task makes of what the source had, by its answer, or none
abbrev pub IsMadeBy : Task → Option (List ℕ) → List ℕ → Type 0
IsMadeBy t had page = IfSome (given_to t.reads had) (λ given. (a : t.Answer) × t.IsAnswer given page a) × IsMadeIf t.makes page

-- and what holds of it besides
abbrev pub IsSoundBy : Task → Option (List ℕ) → List ℕ → Type 0
IsSoundBy t had page = IfSome (given_to t.reads had) (λ given. t.IsSound page)
