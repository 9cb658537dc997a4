-- When a way goes to the side of a number.
use Rattle.std.proofs.Common.{◌≡◌, ℕ, zero, suc, ℤ, pos, negsuc, neg_ℤ, ◌-ℤ◌, ◌*ℤ◌, ◌<ℤ◌, int_lt, Bool, true, false, [], ◌∷◌, refl, sym, ap, subst, ◌∙◌, arith}
use Rattle.std.proofs.lemmas.Int.{ints}
use Rattle.std.specs.Cmp.{int_ranks}
use Rattle.std.specs.Ordering.{int_cmp, MatchOrdering}
use Rattle.std.specs.declared.cmp.Ordering.{Ordering}
use Rattle.std.specs.declared.cmp.Ordering.TheVariants.{Less, Equal, Greater}
use Rattle.integer_laws.proofs.Ring.{var, con, neg, ◌⊗◌, ◌⊖◌, ring, *ℤ_comm}
use Rattle.integer_laws.proofs.Signs.{mul_positive, mul_negative}

above : (a b : ℤ) → int_lt a b ≡ true → a <ℤ b
above a b e = omega (arith, ints)

test : (a b : ℤ) (t : Bool) → int_lt a b ≡ t → a <ℤ b → t ≡ true
test a b true e h = refl
test a b false e h = absurd (omega (arith, ints))

not_test : (a b : ℤ) (t : Bool) → int_lt a b ≡ t → b <ℤ a → t ≡ false
not_test a b true e h = absurd (omega (arith, ints))
not_test a b false e h = refl

level_test : (a : ℤ) → int_lt a a ≡ false
level_test a = by (int_lt a a) refl
  where
    by : (t : Bool) → int_lt a a ≡ t → t ≡ false
    by true e = absurd (omega (arith, ints))
    by false e = refl

times_zero : (d : ℤ) → d *ℤ pos 0 ≡ pos 0
times_zero d = omega (arith, ints)

zero_times : (d : ℤ) → pos 0 *ℤ d ≡ pos 0
zero_times d = omega (arith, ints)

-- a number above 0 keeps the side
pub up : (s d : ℤ) → pos 0 <ℤ d → int_lt (pos 0) s ≡ int_lt (pos 0) (s *ℤ d)
up (pos zero) d h = sym (ap (int_lt (pos 0)) (zero_times d))
up (pos (suc n)) d h = test (pos 0) (pos (suc n)) (int_lt (pos 0) (pos (suc n))) refl (positive n) ∙ sym (test (pos 0) (pos (suc n) *ℤ d) (int_lt (pos 0) (pos (suc n) *ℤ d)) refl (mul_positive (pos (suc n)) d (positive n) h))
  where
    positive : (n : ℕ) → pos 0 <ℤ pos (suc n)
    positive n = omega (arith, ints)
up (negsuc n) d h = sym (not_test (pos 0) (negsuc n *ℤ d) (int_lt (pos 0) (negsuc n *ℤ d)) refl (subst (λ x. x <ℤ pos 0) (*ℤ_comm d (negsuc n)) (mul_negative d (negsuc n) h (negative n))))
  where
    negative : (n : ℕ) → negsuc n <ℤ pos 0
    negative n = omega (arith, ints)

-- a number below 0 turns it
pub down : (s d : ℤ) → d <ℤ pos 0 → int_lt s (pos 0) ≡ int_lt (pos 0) (s *ℤ d)
down (pos zero) d h = sym (ap (int_lt (pos 0)) (zero_times d))
down (pos (suc n)) d h = not_test (pos (suc n)) (pos 0) (int_lt (pos (suc n)) (pos 0)) refl (positive n) ∙ sym (not_test (pos 0) (pos (suc n) *ℤ d) (int_lt (pos 0) (pos (suc n) *ℤ d)) refl (mul_negative (pos (suc n)) d (positive n) h))
  where
    positive : (n : ℕ) → pos 0 <ℤ pos (suc n)
    positive n = omega (arith, ints)
down (negsuc n) d h = sym (test (pos 0) (negsuc n *ℤ d) (int_lt (pos 0) (negsuc n *ℤ d)) refl (subst (λ x. pos 0 <ℤ x) (turned (pos (suc n)) d (negsuc n) refl) (mul_positive (pos (suc n)) (pos 0 -ℤ d) (positive n) (opposite d h))))
  where
    positive : (n : ℕ) → pos 0 <ℤ pos (suc n)
    positive n = omega (arith, ints)

    opposite : (d : ℤ) → d <ℤ pos 0 → pos 0 <ℤ (pos 0 -ℤ d)
    opposite d h = omega (arith, ints)

    turned : (a d b : ℤ) → b ≡ neg_ℤ a → a *ℤ (pos 0 -ℤ d) ≡ b *ℤ d
    turned a d b e = ring (a ∷ (d ∷ [])) (var 0 ⊗ (con (pos 0) ⊖ var 1)) (neg (var 0) ⊗ var 1) refl ∙ ap (λ x. x *ℤ d) (sym e)

-- ---- by the order of two fractions
less : (a b : ℤ) → int_cmp a b ≡ Less → (a -ℤ b) <ℤ pos 0
less a b e = apart a b (subst (λ o. MatchOrdering o (a <ℤ b) (a ≡ b) (b <ℤ a)) e (int_ranks a b))
  where
    apart : (a b : ℤ) → a <ℤ b → (a -ℤ b) <ℤ pos 0
    apart a b h = omega (arith, ints)

equal : (a b : ℤ) → int_cmp a b ≡ Equal → a -ℤ b ≡ pos 0
equal a b e = level a b (subst (λ o. MatchOrdering o (a <ℤ b) (a ≡ b) (b <ℤ a)) e (int_ranks a b))
  where
    level : (a b : ℤ) → a ≡ b → a -ℤ b ≡ pos 0
    level a b h = omega (arith, ints)

greater : (a b : ℤ) → int_cmp a b ≡ Greater → pos 0 <ℤ (a -ℤ b)
greater a b e = apart a b (subst (λ o. MatchOrdering o (a <ℤ b) (a ≡ b) (b <ℤ a)) e (int_ranks a b))
  where
    apart : (a b : ℤ) → b <ℤ a → pos 0 <ℤ (a -ℤ b)
    apart a b h = omega (arith, ints)

pub to_less : (s a b : ℤ) → int_cmp a b ≡ Less → int_lt s (pos 0) ≡ int_lt (pos 0) (s *ℤ (a -ℤ b))
to_less s a b e = down s (a -ℤ b) (less a b e)

pub to_equal : (s a b : ℤ) → int_cmp a b ≡ Equal → false ≡ int_lt (pos 0) (s *ℤ (a -ℤ b))
to_equal s a b e = sym (ap (λ d. int_lt (pos 0) (s *ℤ d)) (equal a b e) ∙ ap (int_lt (pos 0)) (times_zero s))

pub to_greater : (s a b : ℤ) → int_cmp a b ≡ Greater → int_lt (pos 0) s ≡ int_lt (pos 0) (s *ℤ (a -ℤ b))
to_greater s a b e = up s (a -ℤ b) (greater a b e)

-- the order of fractions whose numbers were passed on
pub passed : (o : Ordering) (a b c d p q r s : ℤ) → p ≡ a → q ≡ b → r ≡ c → s ≡ d → o ≡ int_cmp (p *ℤ s) (r *ℤ q) → int_cmp (a *ℤ d) (c *ℤ b) ≡ o
passed o a b c d p q r s ea eb ec ed e = sym (e ∙ (λ i. int_cmp (ea i *ℤ ed i) (ec i *ℤ eb i)))
