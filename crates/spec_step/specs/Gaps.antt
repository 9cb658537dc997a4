-- What stands between tokens, by places in the source, and the next token.
use Rattle.std.specs.Prelude.{◌≡◌, ℕ, ◌+◌, ◌-◌, ◌<◌, ◌≤◌, zero, suc, Bool, ◌||◌, ◌==◌, List, length, drop, slice_index, IsTrue, ◌⊎◌}
use Rattle.spec_step.specs.Spelling.{is_spelled}
use Rattle.spec_step.specs.Longest.{IsLongest, NoToken}
use Rattle.spec_step.specs.declared.token.TokenStep.{TokenStep}
use Rattle.spec_step.specs.declared.token.TokenStep.TheVariants.{Got, Bad, End}

-- space, tab, carriage return, line feed
abbrev pub is_blank : ℕ → Bool
is_blank b = (b == 32 || b == 9) || (b == 13 || b == 10)

-- just before the place k stand a star and a stroke
abbrev pub Closes : List ℕ → ℕ → Type 0
Closes s k = (slice_index s (k - 2) ≡ 42) × (slice_index s (k - 1) ≡ 47)

-- a stroke and a star
abbrev pub Opens : List ℕ → ℕ → Type 0
Opens s i = (i + 1 < length s) × (slice_index s i ≡ 47) × (slice_index s (i + 1) ≡ 42)

-- a comment from i to j, which ends at the first place where it can
pub record IsComment (s : List ℕ) (i j : ℕ) : Type 0 where
  pub opens : Opens s i
  pub room : i + 4 ≤ j
  pub within : j ≤ length s
  pub closes : Closes s j
  pub first : (k : ℕ) → i + 4 ≤ k → k < j → Closes s k → ⊥

abbrev pub IsBlankAt : List ℕ → ℕ → ℕ → Type 0
IsBlankAt s i j = (i < length s) × (IsTrue (is_blank (slice_index s i))) × (j ≡ i + 1)

abbrev pub IsPiece : List ℕ → ℕ → ℕ → Type 0
IsPiece s i j = IsBlankAt s i j ⊎ IsComment s i j

-- n blanks and comments
abbrev pub Pieces : List ℕ → ℕ → ℕ → ℕ → Type 0
Pieces s zero i j = i ≡ j
Pieces s (suc n) i j = (m : ℕ) × IsPiece s i m × Pieces s n m j

-- from i to j stand blanks and comments, and nothing else
abbrev pub Between : List ℕ → ℕ → ℕ → Type 0
Between s i j = (n : ℕ) × Pieces s n i j

-- the longest such gap ends here
pub record GapEnds (s : List ℕ) (from at : ℕ) : Type 0 where
  pub gap : Between s from at
  pub within : at ≤ length s
  pub no_more : (j : ℕ) → IsPiece s at j → ⊥

-- what stands at a place, blanks and comments skipped
abbrev pub IsNext : List ℕ → ℕ → TokenStep → Type 0
IsNext s from (Got t) = GapEnds s from t.from × (t.from < t.end) × IsLongest is_spelled (drop t.from s) t.kind (t.end - t.from)
IsNext s from (Bad at) = GapEnds s from at × (at < length s) × NoToken is_spelled (drop at s)
IsNext s from End = Between s from (length s)

-- where what stands next begins: the first byte of the token, the byte at which none begins, or the end
abbrev pub step_place : List ℕ → TokenStep → ℕ
step_place s (Got t) = t.from
step_place s (Bad at) = at
step_place s End = length s
