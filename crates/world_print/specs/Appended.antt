-- What stands on a page behind a call that appends a text to it.
use Rattle.std.specs.Prelude.{◌≡◌, ℕ, List, ◌++◌, Result, Ok, Err}

-- the page is its old text and a prefix of the text
pub record IsAppendedInPart (old now text : List ℕ) : Type 0 where
  pub prefix : List ℕ
  pub rest : List ℕ
  pub grown : now ≡ old ++ prefix
  pub whole : prefix ++ rest ≡ text

-- the page is its old text and the text; where the call failed, its old text and a prefix of the text
abbrev pub IsAppended : {T E : Type 0} → Result T E → List ℕ → List ℕ → List ℕ → Type 0
IsAppended (Ok x) old now text = now ≡ old ++ text
IsAppended (Err e) old now text = IsAppendedInPart old now text
