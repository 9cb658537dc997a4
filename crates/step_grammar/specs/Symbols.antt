-- A token, as the grammar sees it.
use Rattle.std.specs.Prelude.{ℕ, ◌==◌, List, drop, slice_index, codes, if◌then◌else◌}
use Rattle.spec_num.specs.Decimals.{value}
use Rattle.spec_step.specs.Lexemes.{Lexeme}
use Rattle.spec_step.specs.declared.token.Span.{Span}
use Rattle.spec_step.specs.declared.token.TokenKind.{TokenKind}
use Rattle.spec_step.specs.declared.token.TokenKind.TheVariants as kind
use Rattle.step_grammar.specs.declared.symbol.Name.{Name}
use Rattle.step_grammar.specs.declared.symbol.Name.TheVariants as name
use Rattle.step_grammar.specs.declared.symbol.Atom.TheVariants as atom
use Rattle.step_grammar.specs.declared.symbol.Symbol.{Symbol}
use Rattle.step_grammar.specs.declared.symbol.Symbol.TheVariants as symbol
use Rattle.std.specs.Str.{str_eq_ignore_ascii_case}

abbrev pub name_of : List ℕ → Name
name_of text =
    if str_eq_ignore_ascii_case text (codes "ENDSEC") then name.EndSection
    else (if str_eq_ignore_ascii_case text (codes "HEADER") then name.Header
    else (if str_eq_ignore_ascii_case text (codes "DATA") then name.Data
    else name.Other))

-- the mark of this byte, which ends here
abbrev pub mark_symbol : ℕ → ℕ → Symbol
mark_symbol b end =
    if b == 59 then symbol.Semicolon end
    else (if b == 61 then symbol.Equals
    else (if b == 40 then symbol.Open
    else (if b == 41 then symbol.Close
    else (if b == 44 then symbol.Comma
    else (if b == 36 then symbol.Atom atom.Unset
    else symbol.Atom atom.Derived)))))

abbrev pub symbol_by : TokenKind → Span → List ℕ → Symbol
symbol_by kind.StartWord p text = symbol.StartWord
symbol_by kind.EndWord p text = symbol.EndWord
symbol_by kind.Keyword p text = symbol.Keyword p (name_of text)
symbol_by kind.Number p text = symbol.Number (value (drop 1 text)) p.from
symbol_by kind.Int p text = symbol.Atom (atom.Int p)
symbol_by kind.Real p text = symbol.Atom (atom.Real p)
symbol_by kind.Text p text = symbol.Atom (atom.Text p)
symbol_by kind.Enumeration p text = symbol.Atom (atom.Enumeration p)
symbol_by kind.Binary p text = symbol.Atom (atom.Binary p)
symbol_by kind.Mark p text = mark_symbol (slice_index text 0) p.end

abbrev pub symbol_of : Lexeme → Symbol
symbol_of l = symbol_by l.kind l.span l.text
