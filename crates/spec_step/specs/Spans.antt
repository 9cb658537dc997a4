-- The bytes of a span.
use Rattle.std.specs.Prelude.{ℕ, ◌-◌, List, take, drop}
use Rattle.spec_step.specs.declared.token.Span.{Span}
use Rattle.spec_step.specs.declared.token.Token.{Token}

abbrev pub bytes_at : List ℕ → Span → List ℕ
bytes_at s p = take (p.end - p.from) (drop p.from s)

-- where a token stands
abbrev pub span_of : Token → Span
span_of t = record { from = t.from; end = t.end }
