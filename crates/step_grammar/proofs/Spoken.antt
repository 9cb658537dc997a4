-- What a symbol says of the token whose symbol it is.
use Rattle.std.proofs.Common.{◌≡◌, ℕ, Bool, true, false, List, [], ◌∷◌, codes, if◌then◌else◌, refl, sym, ◌∙◌}
use Rattle.std.proofs.lemmas.Bool.{true≢false, and_parts}
use Rattle.std.specs.Str.{str_eq_ignore_ascii_case}
use Rattle.spec_step.specs.Spelling.{is_spelled, is_mark}
use Rattle.spec_step.specs.Lexemes.{Lexeme, IsToken}
use Rattle.spec_step.specs.Grammar.{Want, start_word, end_word, word, mark, spanned, head_keyword, number, ending, IsAs, equals, opening, closing, comma, semicolon}
use Rattle.spec_step.specs.declared.token.Span.{Span}
use Rattle.spec_step.specs.declared.token.TokenKind.{TokenKind}
use Rattle.spec_step.specs.declared.token.TokenKind.TheVariants as kind
use Rattle.step_grammar.specs.Symbols.{symbol_of, symbol_by, mark_symbol, name_of}
use Rattle.step_grammar.specs.declared.symbol.Atom.{Atom}
use Rattle.step_grammar.specs.declared.symbol.Atom.TheVariants as atom
use Rattle.step_grammar.specs.declared.symbol.Name.{Name}
use Rattle.step_grammar.specs.declared.symbol.Name.TheVariants as name
use Rattle.step_grammar.specs.declared.symbol.Symbol.{Symbol}
use Rattle.step_grammar.specs.declared.symbol.Symbol.TheVariants as symbol
use Rattle.step_grammar.proofs.Marks.{each_mark}

-- what a parameter that is one token is spelled as
abbrev pub atom_want : Atom → Want
atom_want atom.Unset = mark 36
atom_want atom.Derived = mark 42
atom_want (atom.Int p) = spanned kind.Int p
atom_want (atom.Real p) = spanned kind.Real p
atom_want (atom.Text p) = spanned kind.Text p
atom_want (atom.Enumeration p) = spanned kind.Enumeration p
atom_want (atom.Binary p) = spanned kind.Binary p

-- the token is as its symbol says
abbrev pub Spoken : Symbol → Lexeme → Type 0
Spoken symbol.StartWord l = IsAs start_word l
Spoken symbol.EndWord l = IsAs end_word l
Spoken (symbol.Keyword p n) l = (l.kind ≡ kind.Keyword) × (l.span ≡ p) × (name_of l.text ≡ n)
Spoken (symbol.Number n from) l = IsAs (number n from) l
Spoken (symbol.Atom a) l = IsAs (atom_want a) l
Spoken (symbol.Semicolon end) l = IsAs (ending end) l
Spoken symbol.Equals l = IsAs equals l
Spoken symbol.Open l = IsAs opening l
Spoken symbol.Close l = IsAs closing l
Spoken symbol.Comma l = IsAs comma l

-- so is each, kind by kind and mark by mark
spoken_by : (k : TokenKind) (p : Span) (text : List ℕ) → is_spelled k text ≡ true → Spoken (symbol_by k p text) (record { kind = k; span = p; text = text })
spoken_by kind.StartWord p text h = refl
spoken_by kind.EndWord p text h = refl
spoken_by kind.Keyword p text h = (refl, refl, refl)
spoken_by kind.Number p text h = (refl, refl, refl)
spoken_by kind.Int p text h = (refl, refl)
spoken_by kind.Real p text h = (refl, refl)
spoken_by kind.Text p text h = (refl, refl)
spoken_by kind.Enumeration p text h = (refl, refl)
spoken_by kind.Binary p text h = (refl, refl)
spoken_by kind.Mark p [] h = absurd (true≢false (sym h))
spoken_by kind.Mark p (b ∷ []) h =
    each_mark (λ m. Spoken (mark_symbol m p.end) (record { kind = kind.Mark; span = p; text = m ∷ [] }))
    (refl, refl, refl) (refl, refl) (refl, refl) (refl, refl) (refl, refl) (refl, refl) (refl, refl) b (and_parts (is_mark b) true h).0
spoken_by kind.Mark p (b ∷ c ∷ cs) h = absurd (true≢false (sym (and_parts (is_mark b) false h).1))

pub spoken : (l : Lexeme) → IsToken l → Spoken (symbol_of l) l
spoken l h = spoken_by l.kind l.span l.text h

-- a semicolon, wherever it ends
pub semicolon_ends : (end : ℕ) (l : Lexeme) → IsAs (ending end) l → IsAs semicolon l
semicolon_ends end l h = (h.0, h.1)

-- The words of the grammar.

abbrev chosen : Bool → Bool → Bool → Name
chosen a b c = if a then name.EndSection else (if b then name.Header else (if c then name.Data else name.Other))

-- which test chose a name
first_chosen : (a b c : Bool) → chosen a b c ≡ name.EndSection → a ≡ true
first_chosen true b c h = refl
first_chosen false true c h = absurd (cc)
first_chosen false false true h = absurd (cc)
first_chosen false false false h = absurd (cc)

second_chosen : (a b c : Bool) → chosen a b c ≡ name.Header → b ≡ true
second_chosen true b c h = absurd (cc)
second_chosen false true c h = refl
second_chosen false false true h = absurd (cc)
second_chosen false false false h = absurd (cc)

third_chosen : (a b c : Bool) → chosen a b c ≡ name.Data → c ≡ true
third_chosen true b c h = absurd (cc)
third_chosen false true c h = absurd (cc)
third_chosen false false true h = refl
third_chosen false false false h = absurd (cc)

other_chosen : (a b c : Bool) → (chosen a b c ≡ name.EndSection → ⊥) → a ≡ false
other_chosen true b c h = absurd (h refl)
other_chosen false b c h = refl

abbrev same : List ℕ → List ℕ → Bool
same = str_eq_ignore_ascii_case

-- a keyword of this name is that word
pub is_end_section : (p : Span) (l : Lexeme) → Spoken (symbol.Keyword p name.EndSection) l → IsAs (word (codes "ENDSEC")) l
is_end_section p l h = (h.0, first_chosen (same l.text (codes "ENDSEC")) (same l.text (codes "HEADER")) (same l.text (codes "DATA")) h.2)

pub is_header : (p : Span) (l : Lexeme) → Spoken (symbol.Keyword p name.Header) l → IsAs (word (codes "HEADER")) l
is_header p l h = (h.0, second_chosen (same l.text (codes "ENDSEC")) (same l.text (codes "HEADER")) (same l.text (codes "DATA")) h.2)

pub is_data : (p : Span) (l : Lexeme) → Spoken (symbol.Keyword p name.Data) l → IsAs (word (codes "DATA")) l
is_data p l h = (h.0, third_chosen (same l.text (codes "ENDSEC")) (same l.text (codes "HEADER")) (same l.text (codes "DATA")) h.2)

-- a keyword of another name begins a head entry
pub is_head : (p : Span) (n : Name) (l : Lexeme) → (n ≡ name.EndSection → ⊥) → Spoken (symbol.Keyword p n) l → IsAs (head_keyword p) l
is_head p n l other h =
    (h.0, h.1, other_chosen (same l.text (codes "ENDSEC")) (same l.text (codes "HEADER")) (same l.text (codes "DATA")) (λ e. other (sym h.2 ∙ e)))
