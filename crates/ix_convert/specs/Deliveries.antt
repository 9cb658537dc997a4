-- What the sinks hold after the writing.
use Rattle.std.specs.Prelude.{◌≡◌, ℕ, Bool, true, List, [], ◌⊎◌, if◌then◌else◌}
use Rattle.std.specs.Io.KnownBytes.{Appends}
use Rattle.spec_outside.specs.Causes.{Rose, AppendsFront}
use Rattle.spec_run.specs.Changes.{Change}
use Rattle.ix_words.specs.declared.status.Status.{Status}
use Rattle.ix_words.specs.declared.status.Status.TheVariants.{WriteFault}

-- the page, if it is put
abbrev pub page_if : Bool → List ℕ → List ℕ
page_if puts page = if puts then page else []

-- the text was put whole, and no fault came
pub record PutsWhole (sink : Change) (text : List ℕ) : Type 0 where
  pub bytes : Appends sink.before.bytes sink.after.bytes text
  pub faults : sink.after.faults ≡ sink.before.faults

-- a front of the text was put, and then a fault came
pub record PutsFront (sink : Change) (text : List ℕ) : Type 0 where
  pub bytes : AppendsFront sink.before.bytes sink.after.bytes text
  pub faults : Rose sink.before.faults sink.after.faults

-- the page and the report are put whole, and the status is the one that is due
pub record IsWhole (due : Status) (puts : Bool) (page report : List ℕ) (out rep : Change) (result : Status) : Type 0 where
  pub status : result ≡ due
  pub page_put : PutsWhole out (page_if puts page)
  pub reported : PutsWhole rep report

-- the output failed in the page, and nothing was reported
pub record StopsInPage (puts : Bool) (page : List ℕ) (out rep : Change) (result : Status) : Type 0 where
  pub status : result ≡ WriteFault
  pub paged : puts ≡ true
  pub page_cut : PutsFront out page
  pub unreported : rep.same

-- the report failed; the page is put whole, if it is put
pub record StopsInReport (puts : Bool) (page report : List ℕ) (out rep : Change) (result : Status) : Type 0 where
  pub status : result ≡ WriteFault
  pub page_put : PutsWhole out (page_if puts page)
  pub report_cut : PutsFront rep report

-- the page is put to the output, if it is to be put, and then the report
abbrev pub IsDelivered : Status → Bool → List ℕ → List ℕ → Change → Change → Status → Type 0
IsDelivered due puts page report out rep result =
    (IsWhole due puts page report out rep result ⊎ StopsInPage puts page out rep result) ⊎ StopsInReport puts page report out rep result
