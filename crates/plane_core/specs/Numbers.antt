-- Whole numbers of the geometry: when a list of numbers is reduced, and their sizes.
use Rattle.std.specs.Prelude.{◌*◌, ◌≡◌, ◌≤◌, ◌^◌, ℕ, zero, suc, Bool, true, false, ℤ, pos, negsuc, unsigned_abs}
use Prim.Native.Nat.{◌∣◌}

-- no number but 1 divides all four
abbrev pub AreCoprime : ℤ → ℤ → ℤ → ℤ → Type 0
AreCoprime a b c d = (k : ℕ) → k ∣ unsigned_abs a → k ∣ unsigned_abs b → k ∣ unsigned_abs c → k ∣ unsigned_abs d → k ≡ 1

-- the number is positive, or it is 0 and the rest is so
abbrev pub leads : ℤ → Bool → Bool
leads (pos zero) rest = rest
leads (pos (suc n)) rest = true
leads (negsuc n) rest = false

-- the first of three numbers that is not 0 is positive
abbrev pub leads_positive : ℤ → ℤ → ℤ → Bool
leads_positive a b c = leads a (leads b (leads c false))

-- the first number of the row has the size of a distance, and the others that of a normal
pub record IsRow (x y z : ℤ) : Type 0 where
  pub first_small : unsigned_abs x ≤ 2 ^ 44
  pub second_small : unsigned_abs y ≤ 2 ^ 26
  pub third_small : unsigned_abs z ≤ 2 ^ 26

-- g divides all four, and each number that does so divides g
pub record IsGcdOfFour (a b c d : ℤ) (g : ℕ) : Type 0 where
  pub divides_a : g ∣ unsigned_abs a
  pub divides_b : g ∣ unsigned_abs b
  pub divides_c : g ∣ unsigned_abs c
  pub divides_d : g ∣ unsigned_abs d
  pub greatest : (k : ℕ) → k ∣ unsigned_abs a → k ∣ unsigned_abs b → k ∣ unsigned_abs c → k ∣ unsigned_abs d → k ∣ g

-- the four numbers divided by g are within the sizes of a plane
abbrev pub IsSmallOver : ℕ → ℤ → ℤ → ℤ → ℤ → Type 0
IsSmallOver g a b c d = (unsigned_abs a ≤ g * 2 ^ 26) × (unsigned_abs b ≤ g * 2 ^ 26) × (unsigned_abs c ≤ g * 2 ^ 26) × (unsigned_abs d ≤ g * 2 ^ 44)
