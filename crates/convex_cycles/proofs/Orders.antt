-- Order facts on whole numbers, and the signs of sums of two products.
use Rattle.std.proofs.Common.{◌≡◌, ℤ, pos, neg_ℤ, ◌+ℤ◌, ◌*ℤ◌, ◌-ℤ◌, ◌<ℤ◌, ◌≤ℤ◌, inl, inr, arith}
use Rattle.std.proofs.lemmas.Int.{ints}
use Rattle.integer_laws.proofs.Signs.{mul_positive, mul_nonneg}
use Rattle.integer_laws.proofs.Cancel.{sign_cases}

-- ---- one number and 0
pub weaker : (x : ℤ) → pos 0 <ℤ x → pos 0 ≤ℤ x
weaker x h = omega (arith, ints)

pub below : (x : ℤ) → x <ℤ pos 0 → x ≤ℤ pos 0
below x h = omega (arith, ints)

pub level : (x : ℤ) → x ≡ pos 0 → pos 0 ≤ℤ x
level x h = omega (arith, ints)

pub level_below : (x : ℤ) → x ≡ pos 0 → x ≤ℤ pos 0
level_below x h = omega (arith, ints)

pub turned_up : (x : ℤ) → x <ℤ pos 0 → pos 0 <ℤ neg_ℤ x
turned_up x h = omega (arith, ints)

pub turned_down : (x : ℤ) → pos 0 <ℤ x → neg_ℤ x <ℤ pos 0
turned_down x h = omega (arith, ints)

pub turned_weakly : (x : ℤ) → x ≤ℤ pos 0 → pos 0 ≤ℤ neg_ℤ x
turned_weakly x h = omega (arith, ints)

pub not_both : (x : ℤ) → pos 0 <ℤ x → x ≤ℤ pos 0 → ⊥
not_both x h k = omega (arith, ints)

pub not_level : (x : ℤ) → x ≡ pos 0 → pos 0 <ℤ x → ⊥
not_level x h k = omega (arith, ints)

-- neither below 0 nor 0
pub positive_unless : (x : ℤ) → pos 0 ≤ℤ x → (x ≡ pos 0 → ⊥) → pos 0 <ℤ x
positive_unless x h k = elim (sign_cases x) [
  | inl low ↦ absurd (under x h low)
  | inr (inl same) ↦ absurd (k same)
  | inr (inr high) ↦ high
]
  where
    under : (x : ℤ) → pos 0 ≤ℤ x → x <ℤ pos 0 → ⊥
    under x h k = omega (arith, ints)

pub negative_sign : (x : ℤ) → pos 0 <ℤ neg_ℤ x → x <ℤ pos 0
negative_sign x h = omega (arith, ints)

-- ---- sums
pub sum_positive : (x y : ℤ) → pos 0 <ℤ x → pos 0 ≤ℤ y → pos 0 <ℤ (x +ℤ y)
sum_positive x y h k = omega (arith, ints)

pub sum_positive_second : (x y : ℤ) → pos 0 ≤ℤ x → pos 0 <ℤ y → pos 0 <ℤ (x +ℤ y)
sum_positive_second x y h k = omega (arith, ints)

pub sum_nonneg : (x y : ℤ) → pos 0 ≤ℤ x → pos 0 ≤ℤ y → pos 0 ≤ℤ (x +ℤ y)
sum_nonneg x y h k = omega (arith, ints)

pub first_of_sum : (x y : ℤ) → pos 0 ≤ℤ x → pos 0 ≤ℤ y → x +ℤ y ≡ pos 0 → x ≡ pos 0
first_of_sum x y h k e = omega (arith, ints)

pub difference_positive : (x y : ℤ) → pos 0 <ℤ x → y ≤ℤ pos 0 → pos 0 <ℤ (x -ℤ y)
difference_positive x y h k = omega (arith, ints)

pub difference_negative : (x y : ℤ) → x ≤ℤ pos 0 → pos 0 <ℤ y → (x -ℤ y) <ℤ pos 0
difference_negative x y h k = omega (arith, ints)

-- ---- sums of two products
pub positive_mix : (a b v w : ℤ) → pos 0 <ℤ a → pos 0 ≤ℤ b → pos 0 <ℤ v → pos 0 ≤ℤ w → pos 0 <ℤ (a *ℤ v +ℤ b *ℤ w)
positive_mix a b v w ha hb hv hw = sum_positive (a *ℤ v) (b *ℤ w) (mul_positive a v ha hv) (mul_nonneg b w hb hw)

pub nonneg_mix : (a b v w : ℤ) → pos 0 ≤ℤ a → pos 0 ≤ℤ b → pos 0 ≤ℤ v → pos 0 ≤ℤ w → pos 0 ≤ℤ (a *ℤ v +ℤ b *ℤ w)
nonneg_mix a b v w ha hb hv hw = sum_nonneg (a *ℤ v) (b *ℤ w) (mul_nonneg a v ha hv) (mul_nonneg b w hb hw)

pub zero_mix : (a b v w : ℤ) → v ≡ pos 0 → w ≡ pos 0 → a *ℤ v +ℤ b *ℤ w ≡ pos 0
zero_mix a b v w hv hw = rw (hv, hw) (none a b)
  where
    none : (a b : ℤ) → a *ℤ pos 0 +ℤ b *ℤ pos 0 ≡ pos 0
    none a b = omega (arith, ints)
