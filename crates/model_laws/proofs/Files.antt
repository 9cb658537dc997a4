-- A model file is a file of the grammar, by its templates.
use Rattle.std.proofs.Common.{◌≡◌, ℕ, ◌*◌, ◌≤◌, ◌^◌, List, ◌++◌, length, length-append, refl, ◌∙◌, ap, subst, arith}
use Rattle.std.specs.List.{AllByRecursion, flat_map}
use Rattle.spec_step.specs.Lexemes.{Lexeme}
use Rattle.spec_step.specs.Canonical.{canonical}
use Rattle.spec_step.specs.Files.{IsFile, HasDistinctNumbers}
use Rattle.spec_step.specs.declared.tree.Entry.{Entry}
use Rattle.spec_step.specs.declared.tree.Instance.{Instance}
use Rattle.model_gen.specs.Model as text
use Rattle.model_gen.specs.Model.{model}
use Rattle.ix_words.specs.Words.{IsCount}
use Rattle.file_templates.proofs.Templates.{Line, line_tokens, end_tokens, file_tokens, head_of, instances_of}
use Rattle.file_templates.proofs.Spelled.{IsSpelledLine}
use Rattle.file_templates.proofs.Files.{template_file}
use Rattle.file_templates.proofs.Numbers.{Rise, rise_both, rise_distinct}
use Rattle.model_laws.proofs.Parts.{AreLines, both, within, all_both, canonical_both}
use Rattle.model_laws.proofs.Blocks.{walls, slab, holes, walls_are, slab_are, holes_are}
use Rattle.model_laws.proofs.Heads.{header, first_lines, front_text, header_spelled, first_rise, first_spelled}

-- the lines behind the first, and all
abbrev pub further_lines : ℕ → List Line
further_lines n = walls n ++ slab ++ holes n

abbrev pub model_lines : ℕ → List Line
model_lines n = first_lines ++ further_lines n

-- the trees of a model file
abbrev pub model_head : List Entry
model_head = head_of header

abbrev pub model_instances : ℕ → List Instance
model_instances n = instances_of header (model_lines n)

-- these lines have the text of the model behind its head
pub further_are : (n : ℕ) → IsCount n → AreLines (further_lines n) (text.walls n ++ text.slab ++ text.holes n) 100 20000
further_are n h =
    both 10100
    (both 10000 (within 100 10000 (omega arith) (omega (arith, h.most)) (walls_are n h.most)) (within 10000 10100 (omega arith) (omega arith) slab_are))
    (within 10100 20000 (omega arith) (omega (arith, h.most)) (holes_are n h.most))

model_spelled : (n : ℕ) → IsCount n → AllByRecursion IsSpelledLine (model_lines n)
model_spelled n h = all_both IsSpelledLine first_lines (further_lines n) first_spelled (further_are n h).spelled

model_rise : (n : ℕ) → IsCount n → Rise 1 (model_lines n) 20000
model_rise n h = rise_both 1 100 20000 first_lines (further_lines n) first_rise (further_are n h).rise

-- the text behind the first lines
abbrev further_text : ℕ → List ℕ
further_text n = text.walls n ++ text.slab ++ text.holes n

abbrev further_tokens : ℕ → List Lexeme
further_tokens n = flat_map line_tokens (further_lines n)

end_text : canonical end_tokens ≡ text.end
end_text = refl

-- the canonical spelling is the model
pub model_text : (n : ℕ) → IsCount n → canonical (file_tokens header (model_lines n)) ≡ model n
model_text n h =
    let behind : canonical (further_tokens n ++ end_tokens) ≡ further_text n ++ text.end =
    canonical_both (further_tokens n) end_tokens ∙ ap (λ t. t ++ text.end) (further_are n h).text_is in
    front_text (further_tokens n ++ end_tokens) ∙ ap (λ t. text.head ++ t) behind

pub model_file : (n : ℕ) → IsCount n → IsFile (model n) model_head (model_instances n)
model_file n h = subst (λ s. IsFile s model_head (model_instances n)) (model_text n h) (template_file header (model_lines n) header_spelled (model_spelled n h))

pub model_distinct : (n : ℕ) → IsCount n → HasDistinctNumbers (model_instances n)
model_distinct n h = rise_distinct header (model_lines n) 1 20000 (model_rise n h)

-- each of fewer than 20,000 numbers takes at most 300 bytes
small_parts : (front middle end : List ℕ) → length front ≤ 1000 → length middle ≤ 300 * 20000 → length end ≤ 1000 → length (front ++ (middle ++ end)) ≤ 2 ^ 27
small_parts front middle end h k l = omega (arith, length-append front (middle ++ end), length-append middle end)

pub model_small : (n : ℕ) → IsCount n → length (model n) ≤ 2 ^ 27
model_small n h = small_parts text.head (further_text n) text.end (omega arith) (omega (arith, (further_are n h).short)) (omega arith)
