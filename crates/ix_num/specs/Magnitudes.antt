-- The nearest whole number of a fraction, as a relation, up to the greatest count of units.
use Rattle.std.specs.Prelude.{ℕ, ◌+◌, ◌*◌, ◌^◌, ◌<◌, ◌≤◌, Option, Some, None, List, [], ◌∷◌}

-- decimal digits
abbrev pub AreDigits : List ℕ → Type 0
AreDigits [] = Unit {0}
AreDigits (c ∷ cs) = (48 ≤ c) × (c ≤ 57) × AreDigits cs

-- v is the whole number nearest to a / b, a half rounded up
pub record Nearest (a b v : ℕ) : Type 0 where
  pub low : 2 * (v * b) ≤ 2 * a + b
  pub high : 2 * a + b < 2 * (v * b) + 2 * b

-- the whole number nearest to a / b, unless it passes 10 ^ 21
abbrev pub IsMagnitude : ℕ → ℕ → Option ℕ → Type 0
IsMagnitude a b None = (v : ℕ) → Nearest a b v → 10 ^ 21 < v
IsMagnitude a b (Some v) = Nearest a b v × (v ≤ 10 ^ 21)
