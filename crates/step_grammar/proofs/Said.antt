-- The symbol of a token that is as wanted.
use Rattle.std.proofs.Common.{◌≡◌, ℕ, Bool, true, false, List, get_or, codes, if◌then◌else◌, refl, ◌∙◌, ap}
use Rattle.std.proofs.lemmas.Slice.Eq.{bytes_eq-Decides}
use Rattle.std.specs.Str.{str_eq_ignore_ascii_case, str_to_ascii_lowercase, bytes_eq}
use Rattle.spec_step.specs.Lexemes.{Lexeme}
use Rattle.spec_step.specs.Grammar.{word, mark, spanned, head_keyword, reference, number, ending, IsAs, spells_word}
use Rattle.spec_step.specs.declared.token.Span.{Span}
use Rattle.spec_step.specs.declared.token.TokenKind.{TokenKind}
use Rattle.spec_step.specs.declared.token.TokenKind.TheVariants as kind
use Rattle.step_grammar.specs.Symbols.{symbol_of, symbol_by, mark_symbol, name_of}
use Rattle.step_grammar.specs.Places.{head_keyword_place}
use Rattle.step_grammar.specs.declared.symbol.Name.{Name}
use Rattle.step_grammar.specs.declared.symbol.Name.TheVariants as name
use Rattle.step_grammar.specs.declared.symbol.Symbol.TheVariants as symbol
use Rattle.step_grammar.specs.declared.entry.Spot.TheVariants as spot
use Rattle.step_grammar.specs.declared.place.Place.TheVariants as place

-- the symbol of a token of this kind
pub as_kind : (k : TokenKind) (l : Lexeme) → l.kind ≡ k → symbol_of l ≡ symbol_by k l.span l.text
as_kind k l h = ap (λ x. symbol_by x l.span l.text) h

pub as_mark : (b : ℕ) (l : Lexeme) → IsAs (mark b) l → symbol_of l ≡ mark_symbol b l.span.end
as_mark b l h = as_kind kind.Mark l h.0 ∙ ap (λ t. mark_symbol (get_or t 0 0) l.span.end) h.1

pub as_ending : (end : ℕ) (l : Lexeme) → IsAs (ending end) l → symbol_of l ≡ symbol.Semicolon end
as_ending end l h = as_mark 59 l (h.0, h.1) ∙ ap symbol.Semicolon h.2

pub as_spanned : (k : TokenKind) (p : Span) (l : Lexeme) → IsAs (spanned k p) l → symbol_of l ≡ symbol_by k p l.text
as_spanned k p l h = as_kind k l h.0 ∙ ap (λ x. symbol_by k x l.text) h.1

pub as_reference : (n : ℕ) (l : Lexeme) → IsAs (reference n) l → symbol_of l ≡ symbol.Number n l.span.from
as_reference n l h = as_kind kind.Number l h.0 ∙ ap (λ x. symbol.Number x l.span.from) h.1

pub as_number : (n from : ℕ) (l : Lexeme) → IsAs (number n from) l → symbol_of l ≡ symbol.Number n from
as_number n from l h = as_reference n l (h.0, h.1) ∙ ap (symbol.Number n) h.2

-- texts that differ in case alone have one name
abbrev name_of_small : List ℕ → Name
name_of_small text =
    if bytes_eq text (str_to_ascii_lowercase (codes "ENDSEC")) then name.EndSection
    else (if bytes_eq text (str_to_ascii_lowercase (codes "HEADER")) then name.Header
    else (if bytes_eq text (str_to_ascii_lowercase (codes "DATA")) then name.Data
    else name.Other))

-- what passes the test is equal
same_bytes : (a b : List ℕ) → bytes_eq a b ≡ true → a ≡ b
same_bytes a b h = (bytes_eq-Decides a b).0 h

same_name : (w : List ℕ) (l : Lexeme) → spells_word w l ≡ true → name_of l.text ≡ name_of w
same_name w l h = ap name_of_small (same_bytes (str_to_ascii_lowercase l.text) (str_to_ascii_lowercase w) h)

pub as_word : (w : List ℕ) (l : Lexeme) → IsAs (word w) l → symbol_of l ≡ symbol.Keyword l.span (name_of w)
as_word w l h = as_kind kind.Keyword l h.0 ∙ ap (symbol.Keyword l.span) (same_name w l h.1)

pub as_head : (p : Span) (l : Lexeme) → IsAs (head_keyword p) l → symbol_of l ≡ symbol.Keyword p (name_of l.text)
as_head p l h = as_spanned kind.Keyword p l (h.0, h.1)

-- what the name of another word leads to
head_chosen : (p : Span) (a b c : Bool) → a ≡ false → head_keyword_place p (if a then name.EndSection else (if b then name.Header else (if c then name.Data else name.Other))) ≡ place.HeadEntry (spot.Named p)
head_chosen p true b c h = absurd (cc)
head_chosen p false true c h = refl
head_chosen p false false true h = refl
head_chosen p false false false h = refl

-- a keyword that is not ENDSEC begins a head entry
pub head_begins : (p : Span) (l : Lexeme) → IsAs (head_keyword p) l → head_keyword_place p (name_of l.text) ≡ place.HeadEntry (spot.Named p)
head_begins p l h =
    head_chosen p (str_eq_ignore_ascii_case l.text (codes "ENDSEC")) (str_eq_ignore_ascii_case l.text (codes "HEADER")) (str_eq_ignore_ascii_case l.text (codes "DATA")) h.2
