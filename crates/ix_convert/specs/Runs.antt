-- A whole run: what it found, why, and how it was written.
use Rattle.std.specs.Prelude.{◌≡◌, ℕ, List, false}
use Rattle.ix_words.specs.declared.status.Status.{Status}
use Rattle.spec_run.specs.Changes.{Change}
use Rattle.spec_run.specs.Task.{Task}
use Rattle.spec_run.specs.Findings.{Finding, IsFound, status_of, report_of, is_put}
use Rattle.ix_convert.specs.Deliveries.{IsDelivered}

-- of a task, with this page and status
pub record IsRun (t : Task) (page : List ℕ) (status : Status) (src out rep : Change) : Type 0 where
  -- one thing is found: it has its cause, an input has its answer, and any other its one reason; this stands also where a fault
  -- of writing displaces its status
  pub found : Finding t
  pub is_found : IsFound t src page found
  -- the page is put to the output, if it is to be put, and then the report
  pub delivery : IsDelivered (status_of t found) (is_put t found) page (report_of t found) out rep status
  -- what is not to be put leaves the output as it was, also where the report fails
  pub unput : is_put t found ≡ false → out.same
