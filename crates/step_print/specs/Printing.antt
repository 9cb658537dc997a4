-- The bytes printed for a token, and behind it.
use Rattle.std.specs.Prelude.{ℕ, List, ◌++◌}
use Rattle.spec_step.specs.Lexemes.{Lexeme}
use Rattle.spec_step.specs.Canonical.{printed_bytes, line_end}
use Rattle.spec_step.specs.declared.token.TokenKind.{TokenKind}

abbrev pub printed_token : TokenKind → List ℕ → List ℕ
printed_token kind text =
    let l : Lexeme = record { kind = kind; span = record { from = 0; end = 0 }; text = text } in
    printed_bytes l ++ line_end l
