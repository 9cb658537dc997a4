-- Cancelling a positive factor, by the order of a number and 0.
use Rattle.std.proofs.Common.{◌≡◌, zero, suc, ℤ, pos, negsuc, ◌*ℤ◌, ◌<ℤ◌, ◌≤ℤ◌, arith, ap, ◌∙◌, refl, ◌⊎◌, inl, inr}
use Rattle.std.specs.Prelude.{◌≢◌}
use Rattle.std.proofs.lemmas.Int.{ints}
use Rattle.integer_laws.proofs.Signs.{mul_positive, mul_negative}
use Rattle.integer_laws.proofs.Products.{cancel_factor, zero_left}

pub mul_zero_right : (a : ℤ) → a *ℤ pos 0 ≡ pos 0
mul_zero_right a = omega (arith, ints)

pub sign_cases : (a : ℤ) → (a <ℤ pos 0) ⊎ ((a ≡ pos 0) ⊎ (pos 0 <ℤ a))
sign_cases (pos zero) = inr (inl refl)
sign_cases (pos (suc n)) = inr (inr (omega (arith, ints)))
sign_cases (negsuc n) = inl (omega (arith, ints))

pub positive_right : (a b : ℤ) → pos 0 <ℤ a → pos 0 <ℤ (a *ℤ b) → pos 0 <ℤ b
positive_right a b p q = elim (sign_cases b) [
  | inl n ↦ absurd (clash (a *ℤ b) (mul_negative a b p n) q)
  | inr (inl z) ↦ absurd (none (a *ℤ b) (ap (λ x. a *ℤ x) z ∙ mul_zero_right a) q)
  | inr (inr r) ↦ r
]
  where
    clash : (x : ℤ) → x <ℤ pos 0 → pos 0 <ℤ x → ⊥
    clash x h k = omega (arith, ints)

    none : (x : ℤ) → x ≡ pos 0 → pos 0 <ℤ x → ⊥
    none x h k = omega (arith, ints)

pub zero_right : (a b : ℤ) → pos 0 <ℤ a → a *ℤ b ≡ pos 0 → b ≡ pos 0
zero_right a b p q = elim (sign_cases b) [
  | inl n ↦ absurd (none (a *ℤ b) q (mul_negative a b p n))
  | inr (inl z) ↦ z
  | inr (inr r) ↦ absurd (some (a *ℤ b) q (mul_positive a b p r))
]
  where
    some : (x : ℤ) → x ≡ pos 0 → pos 0 <ℤ x → ⊥
    some x h k = omega (arith, ints)

    none : (x : ℤ) → x ≡ pos 0 → x <ℤ pos 0 → ⊥
    none x h k = omega (arith, ints)

pub cancel : (a b c : ℤ) → pos 0 <ℤ a → a *ℤ b ≡ a *ℤ c → b ≡ c
cancel a b c p e = cancel_factor a b c (some a p) e
  where
    some : (a : ℤ) → pos 0 <ℤ a → a ≢ pos 0
    some a p z = omega (arith, ints)

pub mul_nonpos : (a b : ℤ) → pos 0 ≤ℤ a → b ≤ℤ pos 0 → (a *ℤ b) ≤ℤ pos 0
mul_nonpos a b p q = elim (sign_cases a) [
  | inl n ↦ absurd (low a n p)
  | inr (inl z) ↦ from_zero (a *ℤ b) (zero_left a b z)
  | inr (inr r) ↦ elim (sign_cases b) [
    | inl n ↦ weaker (a *ℤ b) (mul_negative a b r n)
    | inr (inl z) ↦ from_zero (a *ℤ b) (ap (λ x. a *ℤ x) z ∙ mul_zero_right a)
    | inr (inr k) ↦ absurd (high b k q)
  ]
]
  where
    low : (x : ℤ) → x <ℤ pos 0 → pos 0 ≤ℤ x → ⊥
    low x h k = omega (arith, ints)

    high : (x : ℤ) → pos 0 <ℤ x → x ≤ℤ pos 0 → ⊥
    high x h k = omega (arith, ints)

    weaker : (x : ℤ) → x <ℤ pos 0 → x ≤ℤ pos 0
    weaker x h = omega (arith, ints)

    from_zero : (x : ℤ) → x ≡ pos 0 → x ≤ℤ pos 0
    from_zero x h = omega (arith, ints)

pub nonpos_right : (a b : ℤ) → pos 0 <ℤ a → (a *ℤ b) ≤ℤ pos 0 → b ≤ℤ pos 0
nonpos_right a b p q = elim (sign_cases b) [
  | inl n ↦ weaker b n
  | inr (inl z) ↦ from_zero b z
  | inr (inr r) ↦ absurd (high (a *ℤ b) (mul_positive a b p r) q)
]
  where
    high : (x : ℤ) → pos 0 <ℤ x → x ≤ℤ pos 0 → ⊥
    high x h k = omega (arith, ints)

    weaker : (x : ℤ) → x <ℤ pos 0 → x ≤ℤ pos 0
    weaker x h = omega (arith, ints)

    from_zero : (x : ℤ) → x ≡ pos 0 → x ≤ℤ pos 0
    from_zero x h = omega (arith, ints)
