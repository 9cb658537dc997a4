-- Answers: a status and a report, before anything is written.
use Rattle.std.specs.Prelude.{◌≡◌, ℕ, Bool, false, ◌||◌, IsTrue, List, [], ◌⊎◌, codes}
use Rattle.ix_words.specs.declared.status.Status.{Status}
use Rattle.ix_words.specs.declared.status.Status.TheVariants as status
use Rattle.ix_outside.specs.declared.fault.TakeFault.{TakeFault}
use Rattle.ix_outside.specs.declared.fault.TakeFault.TheVariants as take
use Rattle.spec_run.specs.Changes.{Change}
use Rattle.spec_run.specs.Task.{Task}
use Rattle.spec_run.specs.Findings.{Finding, Answered, Refused, ReadFault, NoMemory, status_of, report_of, is_put, IsMadeIf, IsFound}
use Rattle.ix_convert.specs.declared.answer.Answer.{Answer}
use Rattle.ix_convert.specs.declared.report.Report.{Report}
use Rattle.ix_convert.specs.declared.report.Report.TheVariants.{Fixed, Built}

-- the bytes of a report
abbrev pub text_of : Report → List ℕ
text_of (Fixed text) = text.now
text_of (Built text) = text.items

-- the answer has this status and this report, and the page is put or not
pub record Says (answer : Answer) (due : Status) (text : List ℕ) (puts : Bool) : Type 0 where
  pub status : answer.status ≡ due
  pub report : text_of answer.report ≡ text
  pub put : answer.puts ≡ puts

-- memory was wanting
abbrev pub SaysWant : Answer → Type 0
SaysWant answer = Says answer status.NoMemory (codes "want of memory\n") false

-- the source was not read to its end
abbrev pub unread_status : TakeFault → Status
unread_status take.Fault = status.ReadFault
unread_status take.TooLarge = status.FileRefused
unread_status take.NoMemory = status.NoMemory

abbrev pub unread_text : TakeFault → List ℕ
unread_text take.Fault = codes "read fault\n"
unread_text take.TooLarge = codes "refused FileTooLarge\n"
unread_text take.NoMemory = codes "want of memory\n"

-- the answer tells a finding: its status, its report, and whether the page is put
abbrev pub Tells : (t : Task) → Answer → Finding t → Type 0
Tells t answer found = Says answer (status_of t found) (report_of t found) (is_put t found)

-- what a task finds in bytes that were read to their end, with the page that is made
abbrev pub IsFoundIn : (t : Task) → List ℕ → List ℕ → Finding t → Type 0
IsFoundIn t given page (Answered a) = t.IsAnswer given page a × t.IsSound page × IsMadeIf t.makes page
IsFoundIn t given page (Refused why) = t.IsRefused given why × (page ≡ [])
IsFoundIn t given page ReadFault = ⊥
IsFoundIn t given page NoMemory = IsTrue (t.reads || t.makes) × IsMadeIf t.makes page

-- the answer of a task on such bytes
abbrev pub AnswersIn : Task → List ℕ → List ℕ → Answer → Type 0
AnswersIn t given page answer = (found : Finding t) × Tells t answer found × IsFoundIn t given page found

-- a finding of a task, and the answer that tells it
abbrev pub IsTold : (t : Task) → Change → List ℕ → Answer → Finding t → Type 0
IsTold t src page answer found = Tells t answer found × IsFound t src page found

-- the answer of a task on a source
pub record Answers (t : Task) (src : Change) (page : List ℕ) (answer : Answer) : Type 0 where
  pub told : (((a : t.Answer) × IsTold t src page answer (Answered a)) ⊎ ((why : t.Fault) × IsTold t src page answer (Refused why)))
      ⊎ (IsTold t src page answer ReadFault ⊎ IsTold t src page answer NoMemory)
