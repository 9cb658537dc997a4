-- The job `check`: what is found of a page, whoever wrote it.
use Rattle.std.specs.Prelude.{◌≡◌, ℕ, ◌≤◌, ◌<◌, true, false, List, [], ◌∷◌, ◌++◌, length, ⊤, codes}
use Rattle.std.specs.Fmt.{decimal}
use Rattle.spec_page.specs.Items.{Item}
use Rattle.spec_page.specs.Refusals.{spaced_number}
use Rattle.spec_check.specs.Grammar.{IsPageText, IsBadLine}
use Rattle.spec_check.specs.Verdicts.{IsVerdict, elements_in}
use Rattle.spec_check.specs.declared.Verdict.{Verdict}
use Rattle.spec_check.specs.declared.Verdict.TheVariants.{Sound, FarCorner, OffPlane, NotConvex, Unbalanced, WrongVolume}
use Rattle.ix_words.specs.declared.status.Status.{Status}
use Rattle.ix_words.specs.declared.status.Status.TheVariants.{Done, CheckFailed}
use Rattle.spec_run.specs.declared.PageFault.{PageFault}
use Rattle.spec_run.specs.declared.PageFault.TheVariants.{TooLarge, Line}
use Rattle.spec_run.specs.Inputs.{most_bytes}
use Rattle.spec_run.specs.Task.{Task}

abbrev pub check_usage : List ℕ
check_usage = codes "check"

-- the bytes are the page of these items, which keep the limits
pub record IsPageInput (given : List ℕ) (grid : ℕ) (items : List Item) : Type 0 where
  pub small : length given ≤ most_bytes
  pub page : IsPageText given grid items

-- the bytes are such a page
abbrev pub IsPage : List ℕ → Type 0
IsPage given = (grid : ℕ) × (items : List Item) × IsPageInput given grid items

-- the text is no page, and its line n is the first that is not allowed
pub record IsNoPage (given : List ℕ) (n : ℕ) : Type 0 where
  pub small : length given ≤ most_bytes
  pub line : IsBadLine given n

-- why these bytes are refused as a page: exactly one of these holds of bytes that are no page
abbrev pub IsPageFaultOf : List ℕ → PageFault → Type 0
IsPageFaultOf given TooLarge = most_bytes < length given
IsPageFaultOf given (Line n) = IsNoPage given n

abbrev pub page_fault_text : PageFault → List ℕ
page_fault_text TooLarge = codes "FileTooLarge"
page_fault_text (Line n) = codes "Line " ++ decimal n

-- what is found of the elements of a page
pub record IsCheckOf (given : List ℕ) (verdict : Verdict) : Type 0 where
  pub grid : ℕ
  pub items : List Item
  pub input : IsPageInput given grid items
  pub verdict_is : IsVerdict grid (elements_in items) verdict

abbrev pub verdict_text : Verdict → List ℕ
verdict_text Sound = codes "sound"
verdict_text (FarCorner v) = codes "check FarCorner " ++ decimal v
verdict_text (OffPlane face) = codes "check OffPlane " ++ decimal face
verdict_text (NotConvex face) = codes "check NotConvex " ++ decimal face
verdict_text (Unbalanced u v) = codes "check Unbalanced " ++ decimal u ++ spaced_number v
verdict_text (WrongVolume n) = codes "check WrongVolume " ++ decimal n

abbrev pub verdict_status : Verdict → Status
verdict_status Sound = Done
verdict_status (FarCorner v) = CheckFailed
verdict_status (OffPlane face) = CheckFailed
verdict_status (NotConvex face) = CheckFailed
verdict_status (Unbalanced u v) = CheckFailed
verdict_status (WrongVolume n) = CheckFailed

-- a page is checked
abbrev pub checking : Task
checking = record {
  reads = true;
  makes = false;
  puts = false;
  Answer = Verdict;
  Fault = PageFault;
  IsTaken = IsPage;
  IsRefused = IsPageFaultOf;
  IsAnswer = λ given page verdict. IsCheckOf given verdict;
  IsSound = λ page. ⊤;
  status = verdict_status;
  report = λ verdict. verdict_text verdict ++ 10 ∷ [];
  reason = page_fault_text;
}
