-- The sign of a reduced plane.
use Rattle.std.proofs.Common.{◌≡◌, ℕ, zero, suc, ◌≤◌, Bool, true, false, ℤ, pos, negsuc, neg_ℤ, ◌*ℤ◌, unsigned_abs, refl, sym, ap, ◌∙◌, subst, arith, ◌∷◌, [], T, ltb, ◌^◌, to_z, of_z, ◌-ℤ◌}
use mir.Syntax.{w128}
use Rattle.integer_laws.proofs.Computed.{Is, again}
use Rattle.std.proofs.lemmas.Int.{ints}
use Rattle.integer_laws.proofs.Ring.{var, con, neg, ◌⊗◌, ring}
use Rattle.plane_core.specs.Numbers.{leads_positive, leads, AreCoprime}

leads_turned : (a : ℤ) (r s : Bool) → (a ≡ pos 0 → r ≡ false → s ≡ true) → leads a r ≡ false → leads (neg_ℤ a) s ≡ true
leads_turned (pos zero) r s h e = h refl e
leads_turned (pos (suc n)) r s h e = cc
leads_turned (negsuc n) r s h e = refl

-- the opposites of numbers that do not lead, and are not all 0, lead
pub opposite_leads : (a b c : ℤ) → ((a ≡ pos 0) × (b ≡ pos 0) × (c ≡ pos 0) → ⊥) → leads_positive a b c ≡ false → leads_positive (neg_ℤ a) (neg_ℤ b) (neg_ℤ c) ≡ true
opposite_leads a b c some e =
    leads_turned a (leads b (leads c false)) (leads (neg_ℤ b) (leads (neg_ℤ c) false))
    (λ za f. leads_turned b (leads c false) (leads (neg_ℤ c) false)
    (λ zb g. leads_turned c false false (λ zc _. absurd (some (za, zb, zc))) g) f) e

pub size-neg : (a : ℤ) → unsigned_abs (neg_ℤ a) ≡ unsigned_abs a
size-neg (pos zero) = refl
size-neg (pos (suc n)) = refl
size-neg (negsuc n) = refl

pub coprime-neg : (a b c d : ℤ) → AreCoprime a b c d → AreCoprime (neg_ℤ a) (neg_ℤ b) (neg_ℤ c) (neg_ℤ d)
coprime-neg a b c d h k u v w x = h k (rw size-neg at u) (rw size-neg at v) (rw size-neg at w) (rw size-neg at x)

pub times_minus_one : (a : ℤ) → a ≡ negsuc 0 *ℤ neg_ℤ a
times_minus_one a = ring (a ∷ []) (var 0) (con (negsuc 0) ⊗ neg (var 0)) refl

pub times_one : (a : ℤ) → a ≡ pos 1 *ℤ a
times_one a = ring (a ∷ []) (var 0) (con (pos 1) ⊗ var 0) refl

minus : (a : ℤ) → pos 0 -ℤ a ≡ neg_ℤ a
minus a = omega (arith, ints)

-- a number that code has turned round
pub opposite : {z v : ℤ} {n : ℕ} → Is z v n → T (ltb n (2 ^ 127)) → Is (to_z w128 (of_z w128 (pos 0 -ℤ z))) (neg_ℤ v) n
opposite {z} {v} {n} h t = again (record { is = ap (λ x. pos 0 -ℤ x) h.is ∙ minus v; size = subst (λ m. m ≤ n) (sym (size-neg v)) h.size }) t
