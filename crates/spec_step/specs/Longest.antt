-- The longest token at a place.
use Rattle.std.specs.Prelude.{◌≡◌, ℕ, ◌≤◌, true, false, Option, Some, None, List, length, take, Bool}
use Rattle.spec_step.specs.declared.token.TokenKind.{TokenKind}

-- under a table of spellings, the first n bytes are a token of this kind, and no longer front is a token
pub record IsLongest (spelled : TokenKind → List ℕ → Bool) (bytes : List ℕ) (kind : TokenKind) (n : ℕ) : Type 0 where
  pub within : n ≤ length bytes
  pub token : spelled kind (take n bytes) ≡ true
  pub longest : (other : TokenKind) (m : ℕ) → m ≤ length bytes → spelled other (take m bytes) ≡ true → m ≤ n

-- no front of the bytes is a token
abbrev pub NoToken : (TokenKind → List ℕ → Bool) → List ℕ → Type 0
NoToken spelled bytes = (kind : TokenKind) (m : ℕ) → m ≤ length bytes → spelled kind (take m bytes) ≡ false

abbrev pub Longest : (TokenKind → List ℕ → Bool) → List ℕ → Option (TokenKind × ℕ) → Type 0
Longest spelled bytes None = NoToken spelled bytes
Longest spelled bytes (Some found) = IsLongest spelled bytes found.0 found.1
