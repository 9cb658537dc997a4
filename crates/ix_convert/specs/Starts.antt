-- What becomes of a start of the program.
use Rattle.std.specs.Prelude.{◌≡◌, ℕ, List, [], ◌∷◌, drop, codes, String, Result, Ok, Err, ◌⊎◌}
use Rattle.std.specs.Global.{Global}
use Rattle.mesh_out.specs.Off.{off_text}
use Rattle.mesh_out.specs.Writers.{Writer, known_writer}
use Rattle.ix_words.specs.declared.status.Status.{Status}
use Rattle.ix_words.specs.Statuses.{code_of}
use Rattle.spec_run.specs.Changes.{Change}
use Rattle.spec_run.specs.Tasks.{asked}
use Rattle.ix_convert.specs.Runs.{IsRun}

-- the words: the arguments without the first, which is the program's name; none where one of them is no text
abbrev pub words_in : {X E : Type 0} → (X → List (String Global)) → Result X E → List (String Global)
words_in texts (Ok args) = drop 1 (texts args)
words_in texts (Err why) = []

-- the writers of the program: `off`, which took no mesh
abbrev pub own_writers : List Writer
own_writers = known_writer (codes "off") [] off_text ∷ []

-- a run of these words with the program's writers, which begins with an empty page, ends with the code of its status
pub record IsRunThatEnds (words : List (String Global)) (src out rep : Change) (code : ℕ) : Type 0 where
  pub status : Status
  pub page : List ℕ
  pub run : IsRun (asked words own_writers) page status src out rep
  pub ends : code ≡ code_of status

-- memory was wanting before the run, and nothing was read or written
pub record IsUnstarted (src out rep : Change) (code : ℕ) : Type 0 where
  pub ends : code ≡ 5
  pub unread : src.same
  pub unput : out.same
  pub unreported : rep.same

abbrev pub IsStarted : List (String Global) → Change → Change → Change → ℕ → Type 0
IsStarted words src out rep code = IsRunThatEnds words src out rep code ⊎ IsUnstarted src out rep code
