-- The parts of `convert`: what is refused, what is built, and where a writer stands.
use Rattle.std.specs.Prelude.{◌≡◌, ℕ, ◌<◌, List, [], length, slice_get, Option, Some, None, ⊤}
use Rattle.std.specs.Option.{option_map}
use Rattle.spec_run.specs.Inputs.{IsFaultOf}
use Rattle.spec_run.specs.Tasks.Converting.{Format, Obj, TextOf, format_of, IsTextIn}
use Rattle.mesh_out.specs.Writers.{Writer, first_named}
use Rattle.spec_page.specs.Items.{Item}
use Rattle.spec_geometry.specs.Files.{File}
use Rattle.spec_outcome.specs.Outcomes.{AreItemsOf}
use Rattle.ix_page.specs.Counts.{IsTallyOf}
use Rattle.ix_page.specs.declared.tally.Tally.{Tally}
use Rattle.ix_convert.specs.declared.open.ConvertFault.{ConvertFault}
use Rattle.ix_convert.specs.declared.open.ConvertFault.TheVariants as fault

-- the format of a page: the text of a writer, or OBJ text where none is wanted
abbrev pub format_by : Option Writer → Format
format_by None = Obj
format_by (Some writer) = TextOf writer

-- the cause of a refusal lies in the bytes; want of memory is free
abbrev pub HasReason : List ℕ → ConvertFault → Type 0
HasReason given (fault.Refused why) = IsFaultOf given why
HasReason given fault.NoMemory = ⊤

-- and nothing stands on the page then
abbrev pub LeavesBlank : List ℕ → ConvertFault → Type 0
LeavesBlank page (fault.Refused why) = page ≡ []
LeavesBlank page fault.NoMemory = ⊤

-- the page of the items of these elements of a file in a format, and what is counted over them
pub record IsBuilt (format : Format) (file : File) (numbers page : List ℕ) (tally : Tally) : Type 0 where
  pub items : List Item
  pub outcomes : AreItemsOf file numbers items
  pub text : IsTextIn format file items page
  pub counts : IsTallyOf tally items

-- the first writer of a name stands at this place, or there is none
abbrev pub IsFirstAt : List Writer → List ℕ → Option ℕ → Type 0
IsFirstAt writers name None = first_named name writers ≡ None
IsFirstAt writers name (Some at) = (at < length writers) × (first_named name writers ≡ slice_get writers at)

-- the writer of a format stands at this place, or there is none
abbrev pub IsPlaceOf : List (List ℕ) → List Writer → ℕ → Option ℕ → Type 0
IsPlaceOf words writers format None = format_of words writers format ≡ None
IsPlaceOf words writers format (Some at) = (at < length writers) × (format_of words writers format ≡ option_map TextOf (slice_get writers at))
