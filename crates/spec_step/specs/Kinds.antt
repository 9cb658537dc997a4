-- What a token is, by its kind.
use Rattle.std.specs.Prelude.{Bool, true, false}
use Rattle.spec_step.specs.declared.token.TokenKind.{TokenKind}
use Rattle.spec_step.specs.declared.token.TokenKind.TheVariants as kind

abbrev pub is_keyword_kind : TokenKind → Bool
is_keyword_kind kind.StartWord = false
is_keyword_kind kind.EndWord = false
is_keyword_kind kind.Keyword = true
is_keyword_kind kind.Number = false
is_keyword_kind kind.Int = false
is_keyword_kind kind.Real = false
is_keyword_kind kind.Text = false
is_keyword_kind kind.Enumeration = false
is_keyword_kind kind.Binary = false
is_keyword_kind kind.Mark = false

abbrev pub is_mark_kind : TokenKind → Bool
is_mark_kind kind.Mark = true
is_mark_kind kind.StartWord = false
is_mark_kind kind.EndWord = false
is_mark_kind kind.Keyword = false
is_mark_kind kind.Number = false
is_mark_kind kind.Int = false
is_mark_kind kind.Real = false
is_mark_kind kind.Text = false
is_mark_kind kind.Enumeration = false
is_mark_kind kind.Binary = false
