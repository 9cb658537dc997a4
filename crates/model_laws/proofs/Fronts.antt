-- What the front of a model file says, whatever follows: its schema, and its unit of length.
use Rattle.std.proofs.Common.{◌≡◌, ℕ, List, [], ◌∷◌, ◌++◌, Some, Ok, true, refl, ◌∙◌, ap, arith, codes}
use Rattle.std.specs.Fmt.{digits}
use Rattle.std.specs.Prelude.{is_some}
use Rattle.spec_step.specs.Files.{NamesSchema}
use Rattle.spec_step.specs.Spans.{bytes_at}
use Rattle.spec_step.specs.declared.token.Span.{Span}
use Rattle.spec_step.specs.declared.token.TokenKind.TheVariants as kinds
use Rattle.spec_step.specs.declared.tree.Param.TheVariants as param
use Rattle.spec_table.specs.Sections.{DataSection, instance_of, param_of}
use Rattle.spec_table.specs.Attributes.{inside, attr_enum}
use Rattle.ifc_kinds.specs.declared.kind.Kind.TheVariants as kind
use Rattle.spec_entity.specs.Reads.{has_kind}
use Rattle.spec_entity.specs.Units.{first_project}
use Rattle.model_gen.specs.Model as text
use Rattle.file_templates.proofs.Templates.{Line, token, mark_token, atom_token, head_tokens, behind, span_at, call_entry, head_place, head_of, instances_of}
use Rattle.model_laws.proofs.Heads.{description, file_name, schema_text, schema, header, first_lines}
use Rattle.model_laws.proofs.Attributes.{enumeration_read, reference_read, member_read, list_read}
use Rattle.model_laws.proofs.Units.{HasMillimetres}

-- the DATA section of a file that begins as a model file
abbrev pub section_of : List ℕ → List Line → DataSection
section_of tail more = record { text = text.head ++ tail; instances = instances_of header (first_lines ++ more) }

module _ (tail : List ℕ) (more : List Line) where
  abbrev section : DataSection
  section = section_of tail more

  project_is : first_project section ≡ Some 6
  unfolding digits
  project_is = refl

  units_param : param_of section 6 9 ≡ Some (param.Reference 2)
  unfolding digits
  units_param = refl

  units_named : is_some (instance_of section 2) ≡ true
  unfolding digits
  units_named = refl

  assignment : has_kind section 2 kind.UnitAssignment ≡ true
  unfolding digits
  assignment = refl

  listed_param : param_of section 2 1 ≡ Some (param.List (param.Reference 1 ∷ []))
  unfolding digits
  listed_param = refl

  unit_named : is_some (instance_of section 1) ≡ true
  unfolding digits
  unit_named = refl

  is_si : has_kind section 1 kind.SiUnit ≡ true
  unfolding digits
  is_si = refl

  -- an attribute of the unit is an enumeration of these letters
  abbrev Says : ℕ → List ℕ → Type 0
  Says position letters = attr_enum section 1 position ≡ Ok (Some letters)

  says : (position : ℕ) (p : Span) (letters : List ℕ) → param_of section 1 position ≡ Some (param.Enumeration p) → inside (bytes_at section.text p) ≡ letters → Says position letters
  says position p letters e f = enumeration_read section 1 position p e ∙ ap (λ x. Ok (Some x)) f

  of_length : Says 2 (codes "LENGTHUNIT")
  unfolding digits
  of_length = says 2 _ (codes "LENGTHUNIT") refl refl

  prefix : Says 3 (codes "MILLI")
  unfolding digits
  prefix = says 3 _ (codes "MILLI") refl refl

  name : Says 4 (codes "METRE")
  unfolding digits
  name = says 4 _ (codes "METRE") refl refl

  pub millimetres : HasMillimetres section
  millimetres = record {
    project = project_is;
    units = reference_read section 6 9 2 units_param units_named;
    assignment = assignment;
    listed = list_read section 2 1 (param.Reference 1 ∷ []) listed_param;
    member = member_read section 2 1 1 unit_named;
    si_unit = is_si;
    of_length = of_length;
    prefix = prefix;
    name = name;
  }

-- The schema.

-- where its entry stands, and its text
abbrev schema_place : ℕ
schema_place = behind (behind head_place (head_tokens description)) (head_tokens file_name)

abbrev schema_span : Span
schema_span = span_at (behind schema_place (token kinds.Keyword schema.keyword ∷ mark_token 40 ∷ mark_token 40 ∷ [])) (atom_token schema_text)

pub names_schema : (tail : List ℕ) → NamesSchema (text.head ++ tail) (head_of header)
names_schema tail = record {
  entry = call_entry schema_place schema;
  schemas = param.Text schema_span ∷ [];
  others = [];
  text = schema_span;
  among = (2, omega arith, refl);
  keyword = refl;
  first = refl;
  member = (0, omega arith, refl);
  accepted = refl;
}
