-- A text as a list of tokens, each with its bytes.
use Rattle.std.specs.Prelude.{◌≡◌, ℕ, true, List, [], ◌∷◌}
use Rattle.spec_step.specs.Spelling.{is_spelled}
use Rattle.spec_step.specs.Gaps.{IsNext}
use Rattle.spec_step.specs.Spans.{bytes_at, span_of}
use Rattle.spec_step.specs.declared.token.Token.{Token}
use Rattle.spec_step.specs.declared.token.Span.{Span}
use Rattle.spec_step.specs.declared.token.TokenKind.{TokenKind}
use Rattle.spec_step.specs.declared.token.TokenStep.TheVariants.{Got, End}

-- a token: its kind, where it stands, and its bytes
pub record Lexeme : Type 0 where
  pub kind : TokenKind
  pub span : Span
  pub text : List ℕ

-- the token of a text
abbrev pub lexeme_of : List ℕ → Token → Lexeme
lexeme_of s t = record { kind = t.kind; span = span_of t; text = bytes_at s (span_of t) }

-- the bytes are those of a token of the kind
abbrev pub IsToken : Lexeme → Type 0
IsToken l = is_spelled l.kind l.text ≡ true

-- from one place of the text to another stand these tokens, and between them nothing but blanks and comments
abbrev pub Reads : List ℕ → ℕ → List Lexeme → ℕ → Type 0
Reads s at [] to = at ≡ to
Reads s at (l ∷ ls) to = (t : Token) × IsNext s at (Got t) × (l ≡ lexeme_of s t) × Reads s t.end ls to

-- these are the tokens of the whole text
abbrev pub HasTokens : List ℕ → List Lexeme → Type 0
HasTokens s ls = (to : ℕ) × Reads s 0 ls to × IsNext s to End
