-- The job `gen`: a generated file, or the page of it.
use Rattle.std.specs.Prelude.{◌≡◌, ℕ, Bool, true, false, List, [], ◌∷◌, ◌++◌, count_by, None, ⊤, codes}
use Rattle.std.specs.Fmt.{decimal}
use Rattle.spec_page.specs.Items.{Item, is_refused}
use Rattle.spec_page.specs.Page.{page_report}
use Rattle.spec_check.specs.Verdicts.{IsSoundPage}
use Rattle.model_gen.specs.Model.{model}
use Rattle.ix_words.specs.declared.status.Status.TheVariants.{Done}
use Rattle.spec_run.specs.Task.{Task}
use Rattle.spec_run.specs.Tasks.Converting.{Obj, IsPageOf, page_status}

abbrev pub gen_usage : List ℕ
gen_usage = codes "gen --count=N [--run]"

abbrev pub generated_line : ℕ → List ℕ
generated_line n = codes "generated " ++ decimal n ++ 10 ∷ []

-- a file of so many walls is generated
abbrev pub generating : ℕ → Task
generating n = record {
  reads = false;
  makes = true;
  puts = true;
  Answer = ⊤;
  Fault = ⊥;
  IsTaken = λ given. ⊤;
  IsRefused = λ given why. ⊥;
  IsAnswer = λ given page answer. page ≡ model n;
  IsSound = λ page. ⊤;
  status = λ answer. Done;
  report = λ answer. generated_line n;
  reason = λ why. [];
}

-- it is generated and converted, on a grid of a millimetre
abbrev pub running : ℕ → Task
running n = record {
  reads = false;
  makes = true;
  puts = false;
  Answer = List Item;
  Fault = ⊥;
  IsTaken = λ given. ⊤;
  IsRefused = λ given why. ⊥;
  IsAnswer = λ given page items. IsPageOf 1000 None Obj (model n) page items;
  IsSound = IsSoundPage 1000;
  status = λ items. page_status (count_by is_refused items);
  report = λ items. generated_line n ++ page_report items;
  reason = λ why. [];
}

abbrev pub generating_or_running : ℕ → Bool → Task
generating_or_running n true = running n
generating_or_running n false = generating n
