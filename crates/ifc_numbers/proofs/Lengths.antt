-- Lengths of decimals that are not below 0.
use Rattle.std.proofs.Common.{◌≡◌, ℕ, ◌*◌, ◌<◌, ◌^◌, ℤ, pos, negsuc, ◌+ℤ◌, ◌*ℤ◌, ◌≤ℤ◌, ◌<ℤ◌, Bool, true, false, if◌then◌else◌, nat_le, unsigned_abs, Some, None, arith, subst, sym, lit<}
use Rattle.std.proofs.lemmas.Int.{ints}
use Rattle.std.proofs.Math.Nat.{one-le-pow}
use Rattle.spec_num.specs.Rounding.{round_of}
use Rattle.spec_place.specs.Lengths.{IsUnit, nanometres, length_of}
use Rattle.ix_num.proofs.Division.{floor_high}

product_above : (a b : ℤ) → pos 0 ≤ℤ a → pos 1 ≤ℤ b → pos 0 ≤ℤ (a *ℤ b)
product_above (pos m) (pos n) h k = omega (arith, ints)
product_above (pos m) (negsuc n) h k = absurd (omega (arith, ints))
product_above (negsuc m) b h k = absurd (omega (arith, ints))

quotient_above : (d : ℕ) (a q : ℤ) → pos 0 ≤ℤ a → (pos 2 *ℤ a +ℤ pos d) <ℤ (pos (2 * d) *ℤ q +ℤ pos (2 * d)) → pos 0 ≤ℤ q
quotient_above d a (pos k) h high = omega (arith, ints)
quotient_above d a (negsuc k) h high = absurd (omega (arith, ints))

rounded_above : (d : ℕ) (a : ℤ) → 0 < d → pos 0 ≤ℤ a → pos 0 ≤ℤ round_of a (pos d)
rounded_above d a some_ h =
    let positive : pos 0 <ℤ pos (2 * d) = omega (arith, ints) in
    quotient_above d a (round_of a (pos d)) h (floor_high (pos 2 *ℤ a +ℤ pos d) (pos (2 * d)) positive)

nanometres_above : (unit v : ℤ) → pos 0 ≤ℤ v → IsUnit unit → pos 0 ≤ℤ nanometres unit v
nanometres_above unit v h k = rounded_above (10 ^ 12) (v *ℤ unit) (one-le-pow 12 10 (lit< tt)) (product_above v unit h k.low)

kept : (b : Bool) (n l : ℤ) → Some l ≡ (if b then Some n else None) → l ≡ n
kept true n l e = cc
kept false n l e = absurd (cc)

-- the length of a decimal that is not below 0 is not below 0
pub length_above : (unit v l : ℤ) → pos 0 ≤ℤ v → IsUnit unit → Some l ≡ length_of unit v → pos 0 ≤ℤ l
length_above unit v l h k e =
    subst (λ n. pos 0 ≤ℤ n) (sym (kept (nat_le (unsigned_abs (nanometres unit v)) (10 ^ 16)) (nanometres unit v) l e)) (nanometres_above unit v h k)
