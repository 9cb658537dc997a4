-- Tests of order as truth values.
use Rattle.std.proofs.Common.{◌≡◌, ℤ, pos, ◌*ℤ◌, ◌-ℤ◌, ◌<ℤ◌, ◌≤ℤ◌, int_lt, Bool, true, false, arith, ◌∙◌, refl, sym}
use Rattle.std.proofs.lemmas.Int.{ints, by_lt_z}
use Rattle.integer_laws.proofs.Signs.{mul_negative, mul_nonneg}

pub test_true : (a b : ℤ) → a <ℤ b → int_lt a b ≡ true
test_true a b h = by (int_lt a b) refl
  where
    by : (t : Bool) → int_lt a b ≡ t → t ≡ true
    by true e = refl
    by false e = absurd (omega (arith, ints))

pub test_false : (a b : ℤ) → b ≤ℤ a → int_lt a b ≡ false
test_false a b h = by (int_lt a b) refl
  where
    by : (t : Bool) → int_lt a b ≡ t → t ≡ false
    by true e = absurd (omega (arith, ints))
    by false e = refl

pub from_test : (a b : ℤ) → int_lt a b ≡ true → a <ℤ b
from_test a b e = omega (arith, ints)

pub from_test_false : (a b : ℤ) → int_lt a b ≡ false → b ≤ℤ a
from_test_false a b e = omega (arith, ints)

-- two tests with one answer
pub same_test : (a b c d : ℤ) → (a <ℤ b → c <ℤ d) → (b ≤ℤ a → d ≤ℤ c) → int_lt a b ≡ int_lt c d
same_test a b c d f g = by_lt_z a b (λ h. test_true a b h ∙ sym (test_true c d (f h))) (λ h. test_false a b h ∙ sym (test_false c d (g h)))

-- a positive factor does not change a sign
pub sign_scaled : (p r : ℤ) → pos 0 <ℤ p → int_lt (p *ℤ r) (pos 0) ≡ int_lt r (pos 0)
sign_scaled p r h = by_lt_z r (pos 0)
    (λ l. test_true (p *ℤ r) (pos 0) (mul_negative p r h l) ∙ sym (test_true r (pos 0) l))
    (λ l. test_false (p *ℤ r) (pos 0) (mul_nonneg p r (weaker p h) l) ∙ sym (test_false r (pos 0) l))
  where
    weaker : (w : ℤ) → pos 0 <ℤ w → pos 0 ≤ℤ w
    weaker w p = omega (arith, ints)

pub sign_of_difference : (a b : ℤ) → int_lt (a -ℤ b) (pos 0) ≡ int_lt a b
sign_of_difference a b = same_test (a -ℤ b) (pos 0) a b (λ h. near a b h) (λ h. far a b h)
  where
    near : (a b : ℤ) → (a -ℤ b) <ℤ pos 0 → a <ℤ b
    near a b h = omega (arith, ints)

    far : (a b : ℤ) → pos 0 ≤ℤ (a -ℤ b) → b ≤ℤ a
    far a b h = omega (arith, ints)
