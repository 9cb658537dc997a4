-- Whole numbers that outdo others.
use Rattle.std.proofs.Common.{List, [], ◌∷◌, ℕ, ◌+◌, ◌*◌, ◌≤◌, ℤ, pos, negsuc, ◌+ℤ◌, ◌*ℤ◌, ◌<ℤ◌, unsigned_abs, arith, mul-le-mul_left}
use Rattle.std.proofs.lemmas.Int.{ints}

-- a number above the size of each of f
abbrev pub reach : {X : Type 0} → (X → ℤ) → List X → ℕ
reach f [] = 1
reach f (x ∷ xs) = unsigned_abs (f x) + reach f xs

pub reach_positive : {X : Type 0} (f : X → ℤ) (xs : List X) → 1 ≤ reach f xs
reach_positive f [] = omega arith
reach_positive f (x ∷ xs) = let r = reach_positive f xs in omega arith

pub positive_number : (n : ℕ) → 1 ≤ n → pos 0 <ℤ pos n
positive_number n h = omega (arith, ints)

-- n times a number above 0 outdoes each number that is smaller than n
pub outdone : (n : ℕ) (v d : ℤ) → pos 0 <ℤ v → unsigned_abs d + 1 ≤ n → pos 0 <ℤ (pos n *ℤ v +ℤ d)
outdone n (pos v) d h k = let some : 1 ≤ v = omega (arith, ints) in let more = mul-le-mul_left n some in total n v d more k
  where
    total : (n v : ℕ) (d : ℤ) → n * 1 ≤ n * v → unsigned_abs d + 1 ≤ n → pos 0 <ℤ (pos (n * v) +ℤ d)
    total n v d h k = omega (arith, ints)
outdone n (negsuc v) d h k = absurd h.lt
