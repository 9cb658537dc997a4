-- The whole root is the one number whose square, and whose successor's square, enclose a number.
use Rattle.std.proofs.Common.{◌≡◌, ℕ, zero, suc, ◌+◌, ◌*◌, ◌<◌, ◌≤◌, Bool, true, false, arith, refl, sym, ◌⊎◌, ◌∙◌, leb, inl, inr, mul-le-mul}
use Rattle.std.specs.Prelude.{nat_le, if◌then◌else◌}
use Rattle.std.proofs.lemmas.Bool.{cases_lt, leb-true}
use Rattle.std.proofs.lemmas.Bool.Decides.{leb_tells}
use Rattle.spec_num.specs.Roots.{root_up_to, whole_root}

not_above : (n r s : ℕ) → r * r ≤ n → n < (s + 1) * (s + 1) → r ≤ s
not_above n r s low high = elim (cases_lt s r) [
  | inr le ↦ le
  | inl lt ↦ let up : (s + 1) * (s + 1) ≤ r * r = mul-le-mul (omega arith) (omega arith) in absurd (omega arith)
]

pub one_root : (n r s : ℕ) → r * r ≤ n → n < (r + 1) * (r + 1) → s * s ≤ n → n < (s + 1) * (s + 1) → r ≡ s
one_root n r s rl rh sl sh = let a = not_above n r s rl sh in let b = not_above n s r sl rh in omega arith

pub record IsRoot (n r : ℕ) : Type 0 where
  pub low : r * r ≤ n
  pub high : n < (r + 1) * (r + 1)

below : (n m : ℕ) → ((leb (suc m * suc m) n ≡ true) × (suc m * suc m ≤ n)) ⊎ ((leb (suc m * suc m) n ≡ false) × (n < suc m * suc m)) → leb (suc m * suc m) n ≡ false → n < (m + 1) * (m + 1)
below n m (inl h) e = let clash : true ≡ false = sym h.0 ∙ e in cc
below n m (inr h) e = omega (arith, h.1)

tried : (n m r : ℕ) → n < (suc m + 1) * (suc m + 1) → (n < (m + 1) * (m + 1) → IsRoot n r) → (b : Bool) → nat_le (suc m * suc m) n ≡ b → IsRoot n (if b then suc m else r)
tried n m r h rest_ true e = record { low = leb-true (suc m * suc m) n e; high = h }
tried n m r h rest_ false e = rest_ (below n m (leb_tells (suc m * suc m) n) e)

root_up_to-is : (n m : ℕ) → n < (m + 1) * (m + 1) → IsRoot n (root_up_to n m)
unfolding root_up_to
root_up_to-is n zero h = record { low = omega arith; high = h }
root_up_to-is n (suc m) h = tried n m (root_up_to n m) h (root_up_to-is n m) (nat_le (suc m * suc m) n) refl

pub whole_root-is : (n : ℕ) → IsRoot n (whole_root n)
unfolding whole_root
whole_root-is n = root_up_to-is n n (above n)
  where
    above : (n : ℕ) → n < (n + 1) * (n + 1)
    above n = omega arith

pub root_is : (n r : ℕ) → r * r ≤ n → n < (r + 1) * (r + 1) → whole_root n ≡ r
root_is n r low high = let h = whole_root-is n in one_root n (whole_root n) r h.low h.high low high
