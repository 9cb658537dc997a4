-- Numbers divided by a divisor, and the signs of what leads.
use Rattle.std.proofs.Common.{◌≡◌, ℕ, zero, suc, ◌<◌, Bool, true, false, ℤ, pos, negsuc, neg_ℤ, ◌*ℤ◌, ◌<ℤ◌, int_div, unsigned_abs, [], ◌∷◌, refl, sym, ap, ◌∙◌, subst, arith, true≢false}
use Rattle.std.proofs.lemmas.Int.{ints, unsigned_abs-mul}
use Prim.Native.Nat.{◌∣◌}
use native.Mathlib.Nat.{dvd-mul_right}
use Rattle.integer_laws.proofs.Ring.{var, neg, ◌⊗◌, ring}
use Rattle.integer_laws.proofs.Products.{cancel_factor}
use Rattle.spec_grid.specs.Forms.{over}
use Rattle.spec_grid.specs.Forms as forms
use Rattle.plane_core.specs.declared.points.Sign.{Sign}
use Rattle.plane_core.specs.declared.points.Sign.TheVariants.{Front, On, Back}
use Rattle.plane_core.specs.Planes.{sign_of}
use Rattle.plane_core.specs.Numbers.{leads, leads_positive}
use Rattle.plane_core.proofs.Divisors.{exact_quotient}
use Rattle.plane_core.proofs.Laws.{sign_factor}

-- ---- quotients
over_is : (g : ℕ) (a : ℤ) → over g a ≡ int_div a (pos g)
over_is g (pos n) = refl
over_is g (negsuc n) = refl

pub over_exact : (g : ℕ) (a : ℤ) → 0 < g → g ∣ unsigned_abs a → a ≡ pos g *ℤ over g a
over_exact g a some h = exact_quotient a (pos g) (positive g some) h ∙ ap (λ q. pos g *ℤ q) (sym (over_is g a))
  where
    positive : (g : ℕ) → 0 < g → pos 0 <ℤ pos g
    positive g h = omega (arith, ints)

apart : (g : ℕ) → 0 < g → pos g ≡ pos 0 → ⊥
apart g h e = omega (arith, ints)

pub over_times : (g : ℕ) (a q : ℤ) → 0 < g → a ≡ pos g *ℤ q → over g a ≡ q
over_times g a q some e =
    cancel_factor (pos g) (over g a) q (apart g some)
    (sym (over_exact g a some (subst (λ n. g ∣ n) (sym (ap unsigned_abs e ∙ unsigned_abs-mul (pos g) q)) (dvd-mul_right g (unsigned_abs q)))) ∙ e)

-- the opposite of a multiple by a negative factor
pub turned_times : (n : ℕ) (a q : ℤ) → a ≡ negsuc n *ℤ q → neg_ℤ a ≡ pos (suc n) *ℤ q
turned_times n a q e = ap neg_ℤ e ∙ ring (pos (suc n) ∷ (q ∷ [])) (neg (neg (var 0) ⊗ var 1)) (var 0 ⊗ var 1) refl

-- ---- what leads
pub leads_is : (a b c d : ℤ) → forms.leads_positive (record { a = a; b = b; c = c; d = d }) ≡ leads_positive a b c
leads_is (pos (suc n)) b c d = refl
leads_is (negsuc n) b c d = refl
leads_is (pos zero) (pos (suc n)) c d = refl
leads_is (pos zero) (negsuc n) c d = refl
leads_is (pos zero) (pos zero) (pos (suc n)) d = refl
leads_is (pos zero) (pos zero) (pos zero) d = refl
leads_is (pos zero) (pos zero) (negsuc n) d = refl

abbrev by_sign : Sign → Bool → Bool
by_sign Front rest = true
by_sign On rest = rest
by_sign Back rest = false

leads_by_sign : (a : ℤ) (rest : Bool) → leads a rest ≡ by_sign (sign_of a) rest
leads_by_sign (pos zero) rest = refl
leads_by_sign (pos (suc n)) rest = refl
leads_by_sign (negsuc n) rest = refl

leads_factor : (k a : ℤ) (r s : Bool) → pos 0 <ℤ k → r ≡ s → leads (k *ℤ a) r ≡ leads a s
leads_factor k a r s h e = leads_by_sign (k *ℤ a) r ∙ (λ i. by_sign (sign_factor k a h i) (e i)) ∙ sym (leads_by_sign a s)

pub leads_times : (k a b c : ℤ) → pos 0 <ℤ k → leads_positive (k *ℤ a) (k *ℤ b) (k *ℤ c) ≡ leads_positive a b c
leads_times k a b c h = leads_factor k a _ _ h (leads_factor k b _ _ h (leads_factor k c false false h refl))

turned : (a : ℤ) (r s : Bool) → (r ≡ true → s ≡ false) → leads (neg_ℤ a) r ≡ true → leads a s ≡ false
turned (pos zero) r s h e = h e
turned (pos (suc n)) r s h e = absurd (true≢false (sym e))
turned (negsuc n) r s h e = refl

-- where the opposites lead, the numbers do not
pub leads_turned : (a b c : ℤ) → leads_positive (neg_ℤ a) (neg_ℤ b) (neg_ℤ c) ≡ true → leads_positive a b c ≡ false
leads_turned a b c = turned a _ _ (turned b _ _ (turned c false false (λ e. refl)))
