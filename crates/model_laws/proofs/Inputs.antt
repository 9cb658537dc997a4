-- A model file is an input that is converted: its unit of length is the millimetre.
use Rattle.std.proofs.Common.{ℕ, pos, List, ◌++◌, refl}
use Rattle.spec_table.specs.Sections.{DataSection}
use Rattle.spec_run.specs.Inputs.{IsInput}
use Rattle.model_gen.specs.Model.{model}
use Rattle.model_gen.specs.Model as text
use Rattle.ix_words.specs.Words.{IsCount}
use Rattle.model_laws.proofs.Files.{further_lines, model_head, model_file, model_distinct, model_small}
use Rattle.model_laws.proofs.Units as unit
use Rattle.model_laws.proofs.Fronts.{section_of, millimetres, names_schema}

-- the text behind the first lines, and the end
abbrev tail : ℕ → List ℕ
tail n = (text.walls n ++ text.slab ++ text.holes n) ++ text.end

-- the DATA section of a model file
abbrev pub model_section : ℕ → DataSection
model_section n = section_of (tail n) (further_lines n)

pub model_is_input : (n : ℕ) → IsCount n → (section : DataSection) × IsInput (model n) section (pos 1000000)
model_is_input n h = (
  model_section n,
  record {
    file = record {
      small = model_small n h;
      text = refl;
      head = model_head;
      accepted = record { file = model_file n h; schema = names_schema (tail n); distinct = model_distinct n h };
    };
    measured = unit.millimetres (model_section n) (millimetres (tail n) (further_lines n));
  },
)
