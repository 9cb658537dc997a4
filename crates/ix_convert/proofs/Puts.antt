-- A run, by the answer that was delivered: the page that is made, and what is put of it.
use Rattle.std.proofs.Common.{◌≡◌, ℕ, Bool, true, false, List, inl, inr, refl, ◌∙◌, subst}
use Rattle.std.specs.Prelude.{◌&&◌}
use Rattle.std.specs.Io.KnownBytes.{Appends}
use Rattle.ix_words.specs.declared.status.Status.{Status}
use Rattle.ix_words.specs.declared.status.Status.TheVariants.{WriteFault}
use Rattle.ix_words.specs.Statuses.{is_done}
use Rattle.spec_run.specs.Changes.{Change}
use Rattle.spec_run.specs.Task.{Task}
use Rattle.spec_run.specs.Findings.{Finding, Answered, Refused, ReadFault, NoMemory, status_of, report_of, is_put, given_to, IsReadWhole, IsCalm, HasFailed, HasCause, IsMadeBy, IsSoundBy}
use Rattle.ix_convert.specs.Answers.{text_of, Tells, Answers}
use Rattle.ix_convert.specs.Runs.{IsRun}
use Rattle.ix_convert.specs.Deliveries.{IsDelivered, page_if}
use Rattle.ix_convert.specs.declared.answer.Answer.{Answer}
use Rattle.ix_convert.proofs.Found.{through, finding_of}

-- an answer that was delivered is a run
pub run_of : (t : Task) (src out rep : Change) (page put : List ℕ) (answer : Answer) (status : Status) → Answers t src page answer → put ≡ page
    → IsDelivered answer.status answer.puts put (text_of answer.report) out rep status → (answer.puts ≡ false → out.same)
    → IsRun t page status src out rep
run_of t src out rep page put answer status h same delivered kept =
    let found = finding_of t src page answer h in
    let f : Finding t = found.0 in
    let tells : Tells t answer f = found.1.0 in
    record {
      found = f;
      is_found = found.1.1;
      delivery =
          subst (λ due. IsDelivered due (is_put t f) page (report_of t f) out rep status) tells.status
          (subst (λ puts. IsDelivered answer.status puts page (report_of t f) out rep status) tells.put
          (subst (λ (text : List ℕ). IsDelivered answer.status answer.puts page text out rep status) tells.report
          (subst (λ (text : List ℕ). IsDelivered answer.status answer.puts text (text_of answer.report) out rep status) same delivered)));
      unput = λ e. kept (tells.put ∙ e);
    }

-- The status that is due.

fault_is_not_done : (status : Status) → status ≡ WriteFault → is_done status ≡ true → ⊥
fault_is_not_done status e done = let has : is_done WriteFault ≡ true = subst (λ (s : Status). is_done s ≡ true) e done in cc

due_of : (due : Status) (puts : Bool) (page report : List ℕ) (out rep : Change) (result : Status)
    → IsDelivered due puts page report out rep result → is_done result ≡ true → is_done due ≡ true
due_of due puts page report out rep result (inl (inl h)) done = subst (λ (s : Status). is_done s ≡ true) h.status done
due_of due puts page report out rep result (inl (inr h)) done = absurd (fault_is_not_done result h.status done)
due_of due puts page report out rep result (inr h) done = absurd (fault_is_not_done result h.status done)

undue_of : (due : Status) (puts : Bool) (page report : List ℕ) (out rep : Change) (result : Status)
    → IsDelivered due puts page report out rep result → is_done result ≡ false → (result ≡ WriteFault → ⊥) → is_done due ≡ false
undue_of due puts page report out rep result (inl (inl h)) undone fine = subst (λ (s : Status). is_done s ≡ false) h.status undone
undue_of due puts page report out rep result (inl (inr h)) undone fine = absurd (fine h.status)
undue_of due puts page report out rep result (inr h) undone fine = absurd (fine h.status)

-- The page that is made.

made_by : (t : Task) (src : Change) (page : List ℕ) (f : Finding t) → HasCause t src page f → is_done (status_of t f) ≡ true → IsMadeBy t src.before.bytes page
made_by t src page (Answered a) h done = (
  through (given_to t.reads src.before.bytes) (λ given. t.IsAnswer given page a × t.IsSound page) (λ given. (b : t.Answer) × t.IsAnswer given page b) (λ given k. (a, k.0)) h.0,
  h.1,
)
made_by t src page (Refused why) h done = cc
made_by t src page ReadFault h done = cc
made_by t src page NoMemory h done = cc

pub made_of : (t : Task) (page : List ℕ) (status : Status) (src out rep : Change) → IsRun t page status src out rep → is_done status ≡ true
    → IsMadeBy t src.before.bytes page
made_of t page status src out rep run done =
    made_by t src page run.found run.is_found.cause
    (due_of (status_of t run.found) (is_put t run.found) page (report_of t run.found) out rep status run.delivery done)

sound_by : (t : Task) (src : Change) (page : List ℕ) (f : Finding t) → HasCause t src page f → is_done (status_of t f) ≡ true → IsSoundBy t src.before.bytes page
sound_by t src page (Answered a) h done =
    through (given_to t.reads src.before.bytes) (λ given. t.IsAnswer given page a × t.IsSound page) (λ given. t.IsSound page) (λ given k. k.1) h.0
sound_by t src page (Refused why) h done = cc
sound_by t src page ReadFault h done = cc
sound_by t src page NoMemory h done = cc

pub sound_of : (t : Task) (page : List ℕ) (status : Status) (src out rep : Change) → IsRun t page status src out rep → is_done status ≡ true
    → IsSoundBy t src.before.bytes page
sound_of t page status src out rep run done =
    sound_by t src page run.found run.is_found.cause
    (due_of (status_of t run.found) (is_put t run.found) page (report_of t run.found) out rep status run.delivery done)

-- What is put of it.

if_done : (puts done : Bool) → done ≡ true → (puts && done) ≡ puts
if_done true done e = e
if_done false done e = refl

unless_put : (puts done : Bool) → puts ≡ false → (puts && done) ≡ false
unless_put true done e = cc
unless_put false done e = refl

unless_done : (puts done : Bool) → done ≡ false → (puts && done) ≡ false
unless_done true done e = e
unless_done false done e = refl

-- what is done is put where the task puts its page
put_by : (t : Task) (f : Finding t) → is_done (status_of t f) ≡ true → is_put t f ≡ t.puts
put_by t (Answered a) done = if_done t.puts (is_done (t.status a)) done
put_by t (Refused why) done = cc
put_by t ReadFault done = cc
put_by t NoMemory done = cc

-- nothing is put where it does not
unput_by : (t : Task) (f : Finding t) → t.puts ≡ false → is_put t f ≡ false
unput_by t (Answered a) e = unless_put t.puts (is_done (t.status a)) e
unput_by t (Refused why) e = refl
unput_by t ReadFault e = refl
unput_by t NoMemory e = refl

-- nor of what is not done
undone_unput : (t : Task) (f : Finding t) → is_done (status_of t f) ≡ false → is_put t f ≡ false
undone_unput t (Answered a) e = unless_done t.puts (is_done (t.status a)) e
undone_unput t (Refused why) e = refl
undone_unput t ReadFault e = refl
undone_unput t NoMemory e = refl

put_whole : (due : Status) (puts : Bool) (page report : List ℕ) (out rep : Change) (result : Status)
    → IsDelivered due puts page report out rep result → is_done result ≡ true → Appends out.before.bytes out.after.bytes (page_if puts page)
put_whole due puts page report out rep result (inl (inl h)) done = h.page_put.bytes
put_whole due puts page report out rep result (inl (inr h)) done = absurd (fault_is_not_done result h.status done)
put_whole due puts page report out rep result (inr h) done = absurd (fault_is_not_done result h.status done)

-- the page is put whole where the task puts it
pub whole_of : (t : Task) (page : List ℕ) (status : Status) (src out rep : Change) → IsRun t page status src out rep → is_done status ≡ true
    → Appends out.before.bytes out.after.bytes (page_if t.puts page)
whole_of t page status src out rep run done =
    subst (λ puts. Appends out.before.bytes out.after.bytes (page_if puts page))
    (put_by t run.found (due_of (status_of t run.found) (is_put t run.found) page (report_of t run.found) out rep status run.delivery done))
    (put_whole (status_of t run.found) (is_put t run.found) page (report_of t run.found) out rep status run.delivery done)

pub unput_of : (t : Task) (page : List ℕ) (status : Status) (src out rep : Change) → IsRun t page status src out rep → t.puts ≡ false → out.same
unput_of t page status src out rep run e = run.unput (unput_by t run.found e)

pub kept_of : (t : Task) (page : List ℕ) (status : Status) (src out rep : Change) → IsRun t page status src out rep
    → is_done status ≡ false → (status ≡ WriteFault → ⊥) → out.same
kept_of t page status src out rep run undone fine =
    run.unput (undone_unput t run.found
    (undue_of (status_of t run.found) (is_put t run.found) page (report_of t run.found) out rep status run.delivery undone fine))

-- A source that is not read is left as it was.

same_whole : (reads : Bool) (src : Change) → reads ≡ false → IsReadWhole reads src → src.same
same_whole true src e h = cc
same_whole false src e h = h

same_calm : (reads : Bool) (src : Change) → reads ≡ false → IsCalm reads src → src.same
same_calm true src e h = cc
same_calm false src e h = h

same_failed : (reads : Bool) (src : Change) → reads ≡ false → HasFailed reads src → src.same
same_failed true src e h = cc
same_failed false src e h = absurd h

same_by : (t : Task) (src : Change) (page : List ℕ) (f : Finding t) → HasCause t src page f → t.reads ≡ false → src.same
same_by t src page (Answered a) h e = same_whole t.reads src e h.2
same_by t src page (Refused why) h e = same_calm t.reads src e h.2
same_by t src page ReadFault h e = same_failed t.reads src e h.0
same_by t src page NoMemory h e = same_calm t.reads src e h.2

pub unread_of : (t : Task) (page : List ℕ) (status : Status) (src out rep : Change) → IsRun t page status src out rep → t.reads ≡ false → src.same
unread_of t page status src out rep run e = same_by t src page run.found run.is_found.cause e
