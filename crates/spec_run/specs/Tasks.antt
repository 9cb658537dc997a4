-- The table of tasks: what the words of a command line ask for, with the writers that are handed in.
use Rattle.std.specs.Prelude.{ℕ, false, List, [], ◌++◌, map, Option, Some, None, ⊤, String, string_bytes, codes}
use Rattle.std.specs.Global.{Global}
use Rattle.ix_words.specs.declared.job.Job.{Job}
use Rattle.ix_words.specs.declared.job.Job.TheVariants as job
use Rattle.ix_words.specs.declared.status.Status.TheVariants as status
use Rattle.ix_words.specs.Words.{job_of}
use Rattle.mesh_out.specs.Writers.{Writer}
use Rattle.spec_run.specs.Task.{Task}
use Rattle.spec_run.specs.Tasks.Converting.{Format, format_of, converting, convert_usage}
use Rattle.spec_run.specs.Tasks.Checking.{checking, check_usage}
use Rattle.spec_run.specs.Tasks.Generating.{generating_or_running, gen_usage}
pub mod Converting
pub mod Checking
pub mod Generating

abbrev pub usage_line : List ℕ
usage_line = codes "usage: ifcexact " ++ convert_usage ++ codes " / " ++ check_usage ++ codes " / " ++ gen_usage ++ codes "\n"

-- words that ask for nothing that is done: nothing is read or made, and memory is never wanting
abbrev pub faulty : Task
faulty = record {
  reads = false;
  makes = false;
  puts = false;
  Answer = ⊤;
  Fault = ⊥;
  IsTaken = λ given. ⊤;
  IsRefused = λ given why. ⊥;
  IsAnswer = λ given page answer. ⊤;
  IsSound = λ page. ⊤;
  status = λ answer. status.Usage;
  report = λ answer. usage_line;
  reason = λ why. [];
}

-- a format without a writer is a fault of the words
abbrev pub converting_to : ℕ → Option ℕ → Option Format → Task
converting_to grid only None = faulty
converting_to grid only (Some format) = converting grid only format

-- the task of a job of these words; none where the words stand for no job
abbrev pub task_for : List (List ℕ) → List Writer → Option Job → Task
task_for words writers None = faulty
task_for words writers (Some (job.Convert grid only format)) = converting_to grid only (format_of words writers format)
task_for words writers (Some job.Check) = checking
task_for words writers (Some (job.Gen count run)) = generating_or_running count run

-- what words ask for
abbrev pub asked : List (String Global) → List Writer → Task
asked words writers = task_for (map (string_bytes {Z = Global}) words) writers (job_of (map (string_bytes {Z = Global}) words))
