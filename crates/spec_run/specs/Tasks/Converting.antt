-- The job `convert`: the page of a file, in OBJ text or as the text of a writer.
use Rattle.std.specs.Prelude.{◌≡◌, ℕ, zero, suc, ℤ, ◌==◌, true, List, ◌++◌, count_by, Option, Some, ⊤, codes, if◌then◌else◌}
use Rattle.std.specs.Option.{option_map, option_and_then}
use Rattle.spec_table.specs.Sections.{DataSection}
use Rattle.spec_entity.specs.Elements.{elements}
use Rattle.spec_geometry.specs.Files.{File}
use Rattle.spec_page.specs.Items.{Item, is_refused}
use Rattle.spec_page.specs.Page.{page_text, page_report}
use Rattle.spec_outcome.specs.Outcomes.{AreItemsOf, wanted_of}
use Rattle.spec_meshes.specs.Meshes.{AreMeshesOf}
use Rattle.spec_check.specs.Verdicts.{IsSoundPage}
use Rattle.world_print.specs.Elements.{Mesh}
use Rattle.mesh_out.specs.Writers.{Writer, first_named}
use Rattle.ix_words.specs.Words.{format_name}
use Rattle.ix_words.specs.declared.status.Status.{Status}
use Rattle.ix_words.specs.declared.status.Status.TheVariants as status
use Rattle.spec_run.specs.declared.FileFault.{FileFault}
use Rattle.spec_run.specs.Inputs.{IsInput, IsFileInput, IsFaultOf, fault_text}
use Rattle.spec_run.specs.Task.{Task}

abbrev pub convert_usage : List ℕ
convert_usage = codes "convert [--grid=N] [--only=N] [--format=NAME]"

-- what the page of a file is: OBJ text, or the text of a writer
pub data Format : Type 0 where
  Obj : Format
  TextOf : Writer → Format

-- the format that the word at a place names, counted from 1; none where no writer has the name
abbrev pub format_of : List (List ℕ) → List Writer → ℕ → Option Format
format_of words writers zero = Some Obj
format_of words writers (suc place) = option_map TextOf (option_and_then (λ name. first_named name writers) (format_name words (suc place)))

-- the meshes that a writer took, and then those of the converted items, give the page
pub record IsWritten (writer : Writer) (file : File) (items : List Item) (page : List ℕ) : Type 0 where
  pub meshes : List Mesh
  pub converted : AreMeshesOf file items meshes
  pub text : page ≡ writer.text_for (writer.taken ++ meshes)

-- the page of the items of a file in a format
abbrev pub IsTextIn : Format → File → List Item → List ℕ → Type 0
IsTextIn Obj file items page = page ≡ page_text file.grid items
IsTextIn (TextOf writer) file items page = IsWritten writer file items page

-- the page of these bytes on a grid: one item for each wanted element of the file, in order, and its text
pub record IsPageOf (grid : ℕ) (only : Option ℕ) (format : Format) (given page : List ℕ) (items : List Item) : Type 0 where
  pub section : DataSection
  pub unit : ℤ
  pub input : IsInput given section unit
  pub outcomes : AreItemsOf (record { section = section; unit = unit; grid = grid }) (wanted_of only (elements section)) items
  pub text : IsTextIn format (record { section = section; unit = unit; grid = grid }) items page

-- a page in OBJ text is one within the limits of pages, and its elements are sound
abbrev pub IsSoundIn : ℕ → Format → List ℕ → Type 0
IsSoundIn grid Obj page = IsSoundPage grid page
IsSoundIn grid (TextOf writer) page = ⊤

-- the status of a page with so many refused elements
abbrev pub page_status : ℕ → Status
page_status refused = if refused == 0 then status.Done else status.SomeRefused

-- a file is converted, on a grid of so many micrometres, with all of its elements or one
abbrev pub converting : ℕ → Option ℕ → Format → Task
converting grid only format = record {
  reads = true;
  makes = true;
  puts = true;
  Answer = List Item;
  Fault = FileFault;
  IsTaken = IsFileInput;
  IsRefused = IsFaultOf;
  IsAnswer = IsPageOf grid only format;
  IsSound = IsSoundIn grid format;
  status = λ items. page_status (count_by is_refused items);
  report = page_report;
  reason = fault_text;
}
