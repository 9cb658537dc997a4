-- What is left to be done falls with each step.
use Rattle.std.proofs.Common.{◌≡◌, ◌+◌, ◌<◌, ◌≤◌, ℕ, zero, suc, arith}
use Rattle.parity_trees.specs.Works.{weight_of}

weight_some : (n : ℕ) → 3 ≤ weight_of n
weight_some zero = omega arith
weight_some (suc n) = let h = weight_some n in omega arith

rises : (a b : ℕ) → a ≤ b → weight_of a ≤ weight_of b
rises zero b h = weight_some b
rises (suc a) zero h = absurd (omega arith)
rises (suc a) (suc b) h = let i = rises a b (omega arith) in omega arith

pub one_part : (a n : ℕ) → a < n → weight_of a < weight_of n
one_part a zero h = absurd (omega arith)
one_part a (suc n) h =
    let i = rises a n (omega arith) in
    let s = weight_some n in
    omega arith

pub both_parts : (a b n : ℕ) → a < n → b < n → weight_of a + (weight_of b + 2) < weight_of n
both_parts a b zero h k = absurd (omega arith)
both_parts a b (suc n) h k =
    let i = rises a n (omega arith) in
    let j = rises b n (omega arith) in
    let s = weight_some n in
    omega arith

-- the weights of a walk, with the rest r that waits
pub less_one : (a n r : ℕ) → a < n → weight_of a + r < weight_of n + r
less_one a n r h = let i = one_part a n h in omega arith

pub less_both : (a b n r s : ℕ) → a < n → b < n → s ≡ r + (weight_of b + 2) → weight_of a + s < weight_of n + r
less_both a b n r s h k e = let i = both_parts a b n h k in omega arith

pub less_leaf : (n r : ℕ) → 0 + r < weight_of n + r
less_leaf n r = let s = weight_some n in omega arith

pub less_back : (w r s t : ℕ) → s ≡ r + (w + 2) → t ≡ r + 1 → w + t < 0 + s
less_back w r s t e f = omega arith

pub less_join : (r s t : ℕ) → s ≡ r + 1 → t ≡ r → 0 + t < 0 + s
less_join r s t e f = omega arith
