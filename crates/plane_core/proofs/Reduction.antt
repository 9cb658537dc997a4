-- The reduction of four numbers by their greatest common divisor.
use Rattle.std.proofs.Common.{◌≡◌, ℕ, zero, suc, ◌*◌, ◌<◌, ◌≤◌, ℤ, pos, negsuc, ◌*ℤ◌, ◌<ℤ◌, ◌≤ℤ◌, unsigned_abs, arith, ap, sym, ◌∙◌, le_of_mul-le-mul_right, mul_comm}
use Rattle.std.proofs.lemmas.Int.{ints, unsigned_abs-mul}
use native.Mathlib.Nat.{dvd_antisymm, eq-zero_of_zero-dvd}
use Rattle.integer_laws.proofs.Ring.{*ℤ_assoc}
use Rattle.integer_laws.proofs.Cancel.{zero_right}
use Rattle.plane_core.specs.Numbers.{IsGcdOfFour}
use Rattle.plane_core.specs.declared.numbers.Plane.{Plane}
use Rattle.plane_core.specs.Planes.{IsReductionOf}

no_size : (a : ℤ) → unsigned_abs a ≡ 0 → a ≡ pos 0
no_size a e = omega (arith, ints)

pub divisor_positive : (a b c d g : ℤ) → pos 0 ≤ℤ g → ((a ≡ pos 0) × (b ≡ pos 0) × (c ≡ pos 0) → ⊥) → IsGcdOfFour a b c d (unsigned_abs g) → pos 0 <ℤ g
divisor_positive a b c d (pos zero) s some gcd =
    absurd (some (no_size a (eq-zero_of_zero-dvd gcd.divides_a), no_size b (eq-zero_of_zero-dvd gcd.divides_b), no_size c (eq-zero_of_zero-dvd gcd.divides_c)))
divisor_positive a b c d (pos (suc n)) s some gcd = omega (arith, ints)
divisor_positive a b c d (negsuc n) s some gcd = absurd s.le

pub small_quotient : (a g q : ℤ) (m n : ℕ) → pos 0 <ℤ g → a ≡ g *ℤ q → m ≡ unsigned_abs g → unsigned_abs a ≤ m * n → unsigned_abs q ≤ n
small_quotient a g q m n h e same fits =
    let some : 0 < unsigned_abs g = omega (arith, ints) in
    let size : unsigned_abs a ≡ unsigned_abs g * unsigned_abs q = ap unsigned_abs e ∙ unsigned_abs-mul g q in
    let product : unsigned_abs q * unsigned_abs g ≤ n * unsigned_abs g = rw (mul_comm (unsigned_abs q) (unsigned_abs g), ← size, mul_comm n (unsigned_abs g), ← same) fits in
    cancelled (unsigned_abs q) n (unsigned_abs g) some product
  where
    cancelled : (x y k : ℕ) → 0 < k → x * k ≤ y * k → x ≤ y
    cancelled x y k h p = grind (arith, le_of_mul-le-mul_right)

pub same_divisor : (a b c d : ℤ) (g h : ℕ) → IsGcdOfFour a b c d g → IsGcdOfFour a b c d h → g ≡ h
same_divisor a b c d g h p q = dvd_antisymm (q.greatest g p.divides_a p.divides_b p.divides_c p.divides_d) (p.greatest h q.divides_a q.divides_b q.divides_c q.divides_d)

pub reduction_over : (p : Plane) (a b c d g q r s t : ℤ) → pos 0 <ℤ g → a ≡ g *ℤ q → b ≡ g *ℤ r → c ≡ g *ℤ s → d ≡ g *ℤ t → IsReductionOf p q r s t → IsReductionOf p a b c d
reduction_over p a b c d g q r s t h ea eb ec ed i = record {
  factor = g *ℤ i.factor;
  some = λ z. i.some (zero_right g i.factor h z);
  times = (
    ea ∙ ap (λ x. g *ℤ x) i.times.0 ∙ sym (*ℤ_assoc g i.factor p.a),
    eb ∙ ap (λ x. g *ℤ x) i.times.1 ∙ sym (*ℤ_assoc g i.factor p.b),
    ec ∙ ap (λ x. g *ℤ x) i.times.2 ∙ sym (*ℤ_assoc g i.factor p.c),
    ed ∙ ap (λ x. g *ℤ x) i.times.3 ∙ sym (*ℤ_assoc g i.factor p.d),
  );
}
