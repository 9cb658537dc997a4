-- The canonical spelling grows by a token.
use Rattle.std.proofs.Common.{◌≡◌, ℕ, List, [], ◌∷◌, ◌++◌, refl, sym, ◌∙◌, ap, subst, true, All, append_assoc, append-nil}
use Rattle.spec_step.specs.Gaps.{IsNext}
use Rattle.spec_step.specs.Lexemes.{Lexeme, lexeme_of, IsToken, Reads, HasTokens}
use Rattle.spec_step.specs.Canonical.{printed_bytes, line_end, canonical, IsCanonical, IsReprint}
use Rattle.spec_step.specs.Files.{IsFile, IsShallow}
use Rattle.spec_step.specs.Grammar.{IsAs, IsDerived, file_spelling}
use Rattle.spec_step.specs.Spans.{bytes_at}
use Rattle.std.specs.List.{AllZip}
use Rattle.std.proofs.Math.Logic.{∥∥₁_elim, ∥∥₁_map}
use mathlib.Core.Bool.{Bool-set}
use Rattle.spec_step.specs.declared.token.Token.{Token}
use Rattle.spec_step.specs.declared.token.TokenStep.TheVariants.{Got}
use Rattle.spec_step.specs.declared.tree.Entry.{Entry}
use Rattle.spec_step.specs.declared.tree.Instance.{Instance}
use Rattle.step_print.specs.Printing.{printed_token}
use Rattle.step_text.proofs.Glue.{reads_more, reads_tokens}
use Rattle.step_print.proofs.Apart.{is_apart, derived_apart}
use Rattle.step_text.proofs.OneAnswer.{one_text}
use Rattle.step_print.proofs.Moved.{move, IsPrinted, starts, ends, all_printed, all_moved, all_texts, file_carried, shallow_moved, entries_moved}
use Rattle.step_print.proofs.Placed.{placed, page_tokens, canonical_placed}
use Rattle.std.proofs.lemmas.List.Elements.{recursion_from_All, All-from_recursion}

canonical_more : (ls : List Lexeme) (l : Lexeme) → canonical (ls ++ l ∷ []) ≡ canonical ls ++ (printed_bytes l ++ line_end l)
canonical_more [] l = append-nil (printed_bytes l ++ line_end l)
canonical_more (x ∷ ls) l = ap (λ t. (printed_bytes x ++ line_end x) ++ t) (canonical_more ls l) ∙ sym (append_assoc (printed_bytes x ++ line_end x) (canonical ls) (printed_bytes l ++ line_end l))

-- the tokens from 0 to this place, and their canonical spelling
abbrev pub Printed : List ℕ → ℕ → List ℕ → Type 0
Printed s at page = (ls : List Lexeme) × Reads s 0 ls at × (page ≡ canonical ls)

pub printed_more : (s : List ℕ) (at : ℕ) (t : Token) (old new text : List ℕ) → Printed s at old → IsNext s at (Got t) → text ≡ (lexeme_of s t).text
    → new ≡ old ++ printed_token t.kind text → Printed s t.end new
printed_more s at t old new text h next is e =
    let l = lexeme_of s t in (
      h.0 ++ l ∷ [],
      reads_more s 0 at h.0 t h.1 next,
      e ∙ ap (λ x. old ++ printed_token t.kind x) is ∙ ap (λ x. x ++ (printed_bytes l ++ line_end l)) h.2 ∙ sym (canonical_more h.0 l),
    )

-- the tokens of a file stand apart
pub file_apart : (s : List ℕ) (head : List Entry) (instances : List Instance) (ls : List Lexeme) → HasTokens s ls → IsFile s head instances → is_apart ls ≡ true
file_apart s head instances ls h f = subst (λ l. is_apart l ≡ true) (one_text s f.lexemes ls f.tokens h) (derived_apart head instances f.lexemes f.derived.tokens)

-- tokens that stand apart are printed as a text that is its own canonical spelling
pub canonical_again : (s : List ℕ) (ls : List Lexeme) → HasTokens s ls → is_apart ls ≡ true → IsCanonical (canonical ls) (canonical ls)
canonical_again s ls h apart =
    (placed 0 ls, page_tokens ls (recursion_from_All IsToken ls (reads_tokens s 0 h.0 ls h.1)) apart, sym (canonical_placed 0 ls))

-- the printed text of a file, read again: the same trees
pub reprint : (s : List ℕ) (head : List Entry) (instances : List Instance) (ls : List Lexeme) → HasTokens s ls → IsFile s head instances → IsReprint s head instances (canonical ls)
reprint s head instances ls h f =
    let page : List ℕ = canonical ls in
    let ms : List Lexeme = placed 0 ls in
    let begin : ℕ → ℕ = starts 0 ls in
    let close : ℕ → ℕ = ends 0 ls in
    let same : f.lexemes ≡ ls = one_text s f.lexemes ls f.tokens h in
    let tokens : HasTokens page ms = page_tokens ls (recursion_from_All IsToken ls (reads_tokens s 0 h.0 ls h.1)) (file_apart s head instances ls h f) in
    let printed_all : AllZip (IsPrinted begin close) ls ms = all_printed begin close s 0 0 h.0 ls h.1 (λ x le. refl) (λ x lt. refl) in
    let derived : IsDerived ls head instances = subst (λ l. IsDerived l head instances) same f.derived in
    record {
      move = move begin close;
      texts = λ others k. subst (All (λ l. bytes_at page (move begin close l.span) ≡ printed_bytes l)) (one_text s ls others h k)
          (All-from_recursion (λ (l : Lexeme). bytes_at page (move begin close l.span) ≡ printed_bytes l) ls (all_texts begin close page 0 tokens.0 ls ms printed_all tokens.1));
      file = record {
        lexemes = ms;
        tokens = tokens;
        derived = record {
          tokens = subst (λ ws. AllZip IsAs ws ms) (sym (file_carried begin close head instances)) (all_moved begin close (file_spelling head instances) ls ms derived.tokens printed_all);
          entries = entries_moved begin close instances derived.entries;
        };
        shallow = shallow_moved begin close ls ms printed_all (subst IsShallow same f.shallow);
      };
    }

pub print_again : (s : List ℕ) (head : List Entry) (instances : List Instance) (page : List ℕ) → ∥ IsFile s head instances ∥₁ → IsCanonical s page → IsCanonical page page
print_again s head instances page given c =
    let apart : is_apart c.0 ≡ true = ∥∥₁_elim given (Bool-set _ _) (λ f. file_apart s head instances c.0 c.1 f) in
    subst (λ x. IsCanonical x x) (sym c.2) (canonical_again s c.0 c.1 apart)

pub print_same : (s : List ℕ) (head : List Entry) (instances : List Instance) (page : List ℕ) → ∥ IsFile s head instances ∥₁ → IsCanonical s page → ∥ IsReprint s head instances page ∥₁
print_same s head instances page given c = ∥∥₁_map given (λ f. subst (IsReprint s head instances) (sym c.2) (reprint s head instances c.0 c.1 f))
