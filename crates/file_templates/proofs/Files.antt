-- A file printed of templates that are well spelled is a file of the grammar, with the trees of the templates.
use Rattle.std.proofs.Common.{◌≡◌, ℕ, ◌&&◌, ◌||◌, List, [], ◌∷◌, refl, sym, ◌∙◌, ap}
use Rattle.std.proofs.lemmas.List.Elements.{All-from_recursion}
use Rattle.std.specs.List.{AllByRecursion}
use Rattle.spec_step.specs.Lexemes.{Lexeme, HasTokens}
use Rattle.spec_step.specs.Kinds.{is_mark_kind}
use Rattle.spec_step.specs.Canonical.{canonical}
use Rattle.spec_step.specs.Files.{IsFile}
use Rattle.spec_step.specs.Grammar.{HasEntry}
use Rattle.spec_step.specs.declared.tree.Instance.{Instance}
use Rattle.step_print.proofs.Apart.{starts_mark, is_apart, derived_apart}
use Rattle.step_print.proofs.Placed.{placed, page_tokens}
use Rattle.file_templates.proofs.Templates.{Call, Line, line_tokens, line_instance, in_order, behind, file_tokens, data_place, head_of, instances_of}
use Rattle.file_templates.proofs.Spelled.{IsSpelledHead, IsSpelledLine, file_are}
use Rattle.file_templates.proofs.Wanted.{file_wanted}
use Rattle.file_templates.proofs.Depth.{file_shallow}

same_start : (at : ℕ) (ls : List Lexeme) → starts_mark (placed at ls) ≡ starts_mark ls
same_start at [] = refl
same_start at (l ∷ ls) = refl

same_apart : (at : ℕ) (ls : List Lexeme) → is_apart (placed at ls) ≡ is_apart ls
same_apart at [] = refl
same_apart at (l ∷ ls) =
    ap (λ b. (is_mark_kind l.kind || b) && is_apart (placed (behind at (l ∷ [])) ls)) (same_start (behind at (l ∷ [])) ls)
    ∙ ap (λ b. (is_mark_kind l.kind || starts_mark ls) && b) (same_apart (behind at (l ∷ [])) ls)

have_entries : (at : ℕ) (lines : List Line) → AllByRecursion (λ (i : Instance). HasEntry i.body) (in_order line_tokens line_instance at lines)
have_entries at [] = tt
have_entries at (l ∷ lines) = (tt, have_entries (behind at (line_tokens l)) lines)

module _ (head : List Call) (lines : List Line) (heads : AllByRecursion IsSpelledHead head) (all : AllByRecursion IsSpelledLine lines) where
  -- the printed file
  abbrev pub page : List ℕ
  page = canonical (file_tokens head lines)

  pub file_has_tokens : HasTokens page (placed 0 (file_tokens head lines))
  file_has_tokens =
      let tokens : List Lexeme = file_tokens head lines in
      page_tokens tokens (file_are head lines heads all)
      (sym (same_apart 0 tokens) ∙ derived_apart (head_of head) (instances_of head lines) (placed 0 tokens) (file_wanted head lines heads all))

  pub template_file : IsFile page (head_of head) (instances_of head lines)
  template_file = record {
    lexemes = placed 0 (file_tokens head lines);
    tokens = file_has_tokens;
    derived = record {
      tokens = file_wanted head lines heads all;
      entries = All-from_recursion (λ (i : Instance). HasEntry i.body) (instances_of head lines) (have_entries (data_place head) lines);
    };
    shallow = file_shallow head lines;
  }
