-- Signs of products of whole numbers.
use Rattle.std.proofs.Common.{◌≡◌, ℕ, zero, suc, ◌<◌, ℤ, pos, negsuc, ◌*ℤ◌, ◌-ℤ◌, ◌<ℤ◌, ◌≤ℤ◌, arith, refl, subst, mul-pos, ◌∷◌, []}
use Rattle.std.proofs.lemmas.Int.{ints, by_lt_z}
use Rattle.integer_laws.proofs.Ring.{var, ◌⊗◌, ◌⊖◌, ring}

pub mul_positive : (a b : ℤ) → pos 0 <ℤ a → pos 0 <ℤ b → pos 0 <ℤ (a *ℤ b)
mul_positive (pos a) (pos b) p q = let u : 0 < a = omega (arith, ints) in let v : 0 < b = omega (arith, ints) in omega (arith, ints, mul-pos u v)
mul_positive (negsuc a) b p q = absurd p.lt
mul_positive (pos a) (negsuc b) p q = absurd q.lt

pub mul_negative : (a b : ℤ) → pos 0 <ℤ a → b <ℤ pos 0 → (a *ℤ b) <ℤ pos 0
mul_negative (pos a) (negsuc b) p q = let u : 0 < a = omega (arith, ints) in omega (arith, ints, mul-pos u (zero_below b))
  where
    zero_below : (b : ℕ) → 0 < suc b
    zero_below b = omega arith
mul_negative (negsuc a) b p q = absurd p.lt
mul_negative (pos a) (pos b) p q = absurd (omega (arith, ints))

pub mul_nonneg : (a b : ℤ) → pos 0 ≤ℤ a → pos 0 ≤ℤ b → pos 0 ≤ℤ (a *ℤ b)
mul_nonneg (pos a) (pos b) p q = omega (arith, ints)
mul_nonneg (negsuc a) b p q = absurd p.le
mul_nonneg (pos a) (negsuc b) p q = absurd q.le

-- the square of a number that is not 0
pub square_positive : (a : ℤ) → (a ≡ pos 0 → ⊥) → pos 0 <ℤ (a *ℤ a)
square_positive (pos zero) h = absurd (h refl)
square_positive (pos (suc n)) h = mul_positive (pos (suc n)) (pos (suc n)) (above n) (above n)
  where
    above : (n : ℕ) → pos 0 <ℤ pos (suc n)
    above n = omega (arith, ints)
square_positive (negsuc n) h = mul_positive (pos (suc n)) (pos (suc n)) (above n) (above n)
  where
    above : (n : ℕ) → pos 0 <ℤ pos (suc n)
    above n = omega (arith, ints)

-- a positive factor keeps the order of two numbers
pub scaled_le : (a b w : ℤ) → pos 0 <ℤ w → a ≤ℤ b → (a *ℤ w) ≤ℤ (b *ℤ w)
scaled_le a b w p h = from (a *ℤ w) (b *ℤ w) (subst (λ x. pos 0 ≤ℤ x) (ring (a ∷ (b ∷ (w ∷ []))) ((var 1 ⊖ var 0) ⊗ var 2) (var 1 ⊗ var 2 ⊖ var 0 ⊗ var 2) refl) (mul_nonneg (b -ℤ a) w (apart a b h) (weaker w p)))
  where
    apart : (a b : ℤ) → a ≤ℤ b → pos 0 ≤ℤ (b -ℤ a)
    apart a b h = omega (arith, ints)

    weaker : (w : ℤ) → pos 0 <ℤ w → pos 0 ≤ℤ w
    weaker w p = omega (arith, ints)

    from : (x y : ℤ) → pos 0 ≤ℤ (y -ℤ x) → x ≤ℤ y
    from x y h = omega (arith, ints)

pub unscaled_lt : (a b w : ℤ) → pos 0 <ℤ w → (a *ℤ w) <ℤ (b *ℤ w) → a <ℤ b
unscaled_lt a b w p h = by_lt_z a b (λ l. l) (λ l. absurd (clash (a *ℤ w) (b *ℤ w) h (scaled_le b a w p l)))
  where
    clash : (x y : ℤ) → x <ℤ y → y ≤ℤ x → ⊥
    clash x y h k = omega (arith, ints)
