-- Products of whole numbers: products with 0, sizes, and cancelling a factor that is not 0.
use Rattle.std.proofs.Common.{◌≡◌, ℕ, zero, suc, ◌*◌, ◌≤◌, ℤ, pos, negsuc, ◌+ℤ◌, ◌*ℤ◌, ◌-ℤ◌, neg_ℤ, ◌<ℤ◌, unsigned_abs, arith, ap, ◌∙◌, refl, mul-le-mul}
use Rattle.std.specs.Prelude.{◌≢◌}
use Rattle.std.proofs.lemmas.Int.{ints, unsigned_abs-mul}
use Rattle.integer_laws.proofs.Ring.{*ℤ_comm, *ℤ-+ℤ, neg_ℤ-*ℤ}

-- ---- 0
pub zero_left : (a b : ℤ) → a ≡ pos 0 → a *ℤ b ≡ pos 0
zero_left a b e = ap (λ x. x *ℤ b) e ∙ none b
  where
    none : (b : ℤ) → pos 0 *ℤ b ≡ pos 0
    none b = omega (arith, ints)

pub zero_right : (a b : ℤ) → b ≡ pos 0 → a *ℤ b ≡ pos 0
zero_right a b e = ap (λ x. a *ℤ x) e ∙ none a
  where
    none : (a : ℤ) → a *ℤ pos 0 ≡ pos 0
    none a = omega (arith, ints)

pub zero_difference : (x y : ℤ) → x ≡ pos 0 → y ≡ pos 0 → x -ℤ y ≡ pos 0
zero_difference x y p q = omega (arith, ints)

pub same_difference : (x : ℤ) → x -ℤ x ≡ pos 0
same_difference x = omega (arith, ints)

-- a difference of two products is 0 where each product has a factor x - x
pub first_first : (x y b d : ℤ) → (x -ℤ x) *ℤ b -ℤ (y -ℤ y) *ℤ d ≡ pos 0
first_first x y b d = zero_difference ((x -ℤ x) *ℤ b) ((y -ℤ y) *ℤ d) (zero_left (x -ℤ x) b (same_difference x)) (zero_left (y -ℤ y) d (same_difference y))

pub second_second : (a x c y : ℤ) → a *ℤ (x -ℤ x) -ℤ c *ℤ (y -ℤ y) ≡ pos 0
second_second a x c y = zero_difference (a *ℤ (x -ℤ x)) (c *ℤ (y -ℤ y)) (zero_right a (x -ℤ x) (same_difference x)) (zero_right c (y -ℤ y) (same_difference y))

pub second_first : (a x y d : ℤ) → a *ℤ (x -ℤ x) -ℤ (y -ℤ y) *ℤ d ≡ pos 0
second_first a x y d = zero_difference (a *ℤ (x -ℤ x)) ((y -ℤ y) *ℤ d) (zero_right a (x -ℤ x) (same_difference x)) (zero_left (y -ℤ y) d (same_difference y))

pub first_second : (x b c y : ℤ) → (x -ℤ x) *ℤ b -ℤ c *ℤ (y -ℤ y) ≡ pos 0
first_second x b c y = zero_difference ((x -ℤ x) *ℤ b) (c *ℤ (y -ℤ y)) (zero_left (x -ℤ x) b (same_difference x)) (zero_right c (y -ℤ y) (same_difference y))

-- ---- sizes
pub size_zero : (a : ℤ) → unsigned_abs a ≡ 0 → a ≡ pos 0
size_zero (pos n) e = ap pos e
size_zero (negsuc n) e = absurd (omega (arith, ints))

pub size_positive : (a : ℤ) → a ≢ pos 0 → 1 ≤ unsigned_abs a
size_positive (pos zero) h = absurd (h refl)
size_positive (pos (suc n)) h = omega (arith, ints)
size_positive (negsuc n) h = omega (arith, ints)

pub size_one : (a : ℤ) → unsigned_abs a ≡ 1 → pos 0 <ℤ a → a ≡ pos 1
size_one (pos n) e h = ap pos e
size_one (negsuc n) e h = absurd h.lt

-- a factor that is not 0 makes no number smaller
pub size_factor : (m a : ℤ) → m ≢ pos 0 → unsigned_abs a ≤ unsigned_abs (m *ℤ a)
size_factor m a h = rw (unsigned_abs-mul m a) (larger (unsigned_abs m) (unsigned_abs a) (size_positive m h))
  where
    larger : (i j : ℕ) → 1 ≤ i → j ≤ i * j
    larger i j h = let e : 1 * j ≤ i * j = mul-le-mul h (omega arith) in omega arith

pub cancel_zero : (m a : ℤ) → m ≢ pos 0 → m *ℤ a ≡ pos 0 → a ≡ pos 0
cancel_zero m a h e = size_zero a (none (unsigned_abs a) (unsigned_abs (m *ℤ a)) (size_factor m a h) (ap unsigned_abs e))
  where
    none : (i j : ℕ) → i ≤ j → j ≡ 0 → i ≡ 0
    none i j p q = omega arith

pub cancel_factor : (m a b : ℤ) → m ≢ pos 0 → m *ℤ a ≡ m *ℤ b → a ≡ b
cancel_factor m a b h e = same a b (cancel_zero m (a -ℤ b) h (apart m a b e))
  where
    ends : (x y : ℤ) → x ≡ y → x +ℤ neg_ℤ y ≡ pos 0
    ends x y e = omega (arith, ints)

    apart : (m a b : ℤ) → m *ℤ a ≡ m *ℤ b → m *ℤ (a -ℤ b) ≡ pos 0
    apart m a b e = *ℤ-+ℤ m a (neg_ℤ b) ∙ ap (λ x. m *ℤ a +ℤ x) (*ℤ_comm m (neg_ℤ b) ∙ neg_ℤ-*ℤ b m ∙ ap neg_ℤ (*ℤ_comm b m)) ∙ ends (m *ℤ a) (m *ℤ b) e

    same : (a b : ℤ) → a -ℤ b ≡ pos 0 → a ≡ b
    same a b e = omega (arith, ints)
