-- Pairs of places in order, and where two lists of them differ first.
use Rattle.std.specs.Prelude.{ℕ, List, [], ◌∷◌, Option, Some, None}
use Rattle.std.specs.Ordering.{nat_cmp, ordering_then}
use Rattle.std.specs.declared.cmp.Ordering.{Ordering}
use Rattle.std.specs.declared.cmp.Ordering.TheVariants.{Less, Equal, Greater}

-- the pair from its second place to its first
abbrev pub turned : ℕ × ℕ → ℕ × ℕ
turned ends = (ends.1, ends.0)

-- by the first place, then by the second
abbrev pub pair_cmp : ℕ × ℕ → ℕ × ℕ → Ordering
pair_cmp p q = ordering_then (nat_cmp p.0 q.0) (nat_cmp p.1 q.1)

-- the lesser of two pairs, or what is found behind them where they are equal
abbrev pub lesser_or : Ordering → ℕ × ℕ → ℕ × ℕ → Option (ℕ × ℕ) → Option (ℕ × ℕ)
lesser_or Less p q rest = Some p
lesser_or Equal p q rest = rest
lesser_or Greater p q rest = Some q

-- the lesser of the two pairs at the first place at which the lists differ
abbrev pub first_difference : List (ℕ × ℕ) → List (ℕ × ℕ) → Option (ℕ × ℕ)
first_difference [] _ = None
first_difference _ [] = None
first_difference (p ∷ ps) (q ∷ qs) = lesser_or (pair_cmp p q) p q (first_difference ps qs)
