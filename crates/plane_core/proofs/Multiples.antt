-- Numbers that have equal multiples are multiples of one number.
use Rattle.std.proofs.Common.{◌≡◌, ℕ, zero, suc, ◌+◌, ◌-◌, ◌<◌, ◌≤◌, ℤ, pos, negsuc, ◌+ℤ◌, ◌-ℤ◌, ◌*ℤ◌, neg_ℤ, [], ◌∷◌, ◌⊎◌, inl, inr, refl, sym, ap, ◌∙◌, arith}
use Rattle.std.specs.Prelude.{◌≢◌}
use Rattle.std.proofs.lemmas.Int.{ints}
use Rattle.integer_laws.proofs.Ring.{var, neg, ◌⊕◌, ◌⊗◌, ◌⊖◌, ring}
use Rattle.integer_laws.proofs.Products.{cancel_factor}

-- where m times x is n times y, both are multiples of one number, by factors that m and n alone fix
pub record Shares (m n : ℕ) : Type 0 where
  pub first : ℕ
  pub second : ℕ
  pub share : (x y : ℤ) → pos m *ℤ x ≡ pos n *ℤ y → (z : ℤ) × (x ≡ pos first *ℤ z) × (y ≡ pos second *ℤ z)

order : (m n : ℕ) → (m < n) ⊎ ((m ≡ n) ⊎ (n < m))
order zero zero = inr (inl refl)
order zero (suc n) = inl (omega arith)
order (suc m) zero = inr (inr (omega arith))
order (suc m) (suc n) = elim (order m n) [
  | inl h ↦ inl (omega arith)
  | inr (inl e) ↦ inr (inl (ap suc e))
  | inr (inr h) ↦ inr (inr (omega arith))
]

some : (m : ℕ) → 0 < m → pos m ≢ pos 0
some m h e = omega (arith, ints)

times_one : (x : ℤ) → x ≡ pos 1 *ℤ x
times_one x = omega (arith, ints)

equal_shares : (m n : ℕ) → 0 < m → m ≡ n → Shares m n
equal_shares m n h e = record {
  first = 1;
  second = 1;
  share = λ x y same. (x, times_one x, cancel_factor (pos m) y x (some m h) (ap (λ k. pos k *ℤ y) e ∙ sym same) ∙ times_one x);
}

less : (m n d x y : ℤ) → m ≡ n +ℤ d → m *ℤ x ≡ n *ℤ y → d *ℤ x ≡ n *ℤ (y -ℤ x)
less m n d x y e same =
    ring (n ∷ (d ∷ (x ∷ []))) (var 1 ⊗ var 2) ((var 0 ⊕ var 1) ⊗ var 2 ⊖ var 0 ⊗ var 2) refl
    ∙ ap (λ k. k *ℤ x -ℤ n *ℤ x) (sym e) ∙ ap (λ k. k -ℤ n *ℤ x) same
    ∙ ring (n ∷ (x ∷ (y ∷ []))) (var 0 ⊗ var 2 ⊖ var 0 ⊗ var 1) (var 0 ⊗ (var 2 ⊖ var 1)) refl

both : (u v : ℕ) (x y z : ℤ) → x ≡ pos u *ℤ z → y -ℤ x ≡ pos v *ℤ z → y ≡ pos (u + v) *ℤ z
both u v x y z p q = whole x y ∙ ap (λ k. k +ℤ (y -ℤ x)) p ∙ ap (λ k. pos u *ℤ z +ℤ k) q ∙ ring (pos u ∷ (pos v ∷ (z ∷ []))) (var 0 ⊗ var 2 ⊕ var 1 ⊗ var 2) ((var 0 ⊕ var 1) ⊗ var 2) refl
  where
    whole : (x y : ℤ) → y ≡ x +ℤ (y -ℤ x)
    whole x y = omega (arith, ints)

over : (m n : ℕ) → n < m → pos m ≡ pos n +ℤ pos (m - n)
over m n h = omega (arith, ints)

larger_first : (m n : ℕ) → n < m → Shares (m - n) n → Shares m n
larger_first m n h s = record {
  first = s.first;
  second = s.first + s.second;
  share = λ x y same. let r = s.share x (y -ℤ x) (less (pos m) (pos n) (pos (m - n)) x y (over m n h) same) in (r.0, r.1, both s.first s.second x y r.0 r.1 r.2);
}

turned : (m n : ℕ) → Shares n m → Shares m n
turned m n s = record { first = s.second; second = s.first; share = λ x y same. let r = s.share y x (sym same) in (r.0, r.2, r.1) }

shares_within : (k m n : ℕ) → m + n ≤ k → 0 < m → 0 < n → Shares m n
shares_within zero m n h p q = absurd (omega arith)
shares_within (suc k) m n h p q = elim (order m n) [
  | inl less_first ↦ turned m n (larger_first n m less_first (shares_within k (n - m) m (omega arith) (omega arith) p))
  | inr (inl e) ↦ equal_shares m n p e
  | inr (inr more) ↦ larger_first m n more (shares_within k (m - n) n (omega arith) (omega arith) q)
]

pub shares : (m n : ℕ) → 0 < m → 0 < n → Shares m n
shares m n p q = shares_within (m + n) m n (omega arith) p q

pub turn_both : (i j : ℕ) (x y : ℤ) → negsuc i *ℤ x ≡ negsuc j *ℤ y → pos (suc i) *ℤ x ≡ pos (suc j) *ℤ y
turn_both i j x y e =
    ring (pos (suc i) ∷ (x ∷ [])) (var 0 ⊗ var 1) (neg (neg (var 0) ⊗ var 1)) refl ∙ ap neg_ℤ e ∙ ring (pos (suc j) ∷ (y ∷ [])) (neg (neg (var 0) ⊗ var 1)) (var 0 ⊗ var 1) refl

pub turn_first : (i j : ℕ) (x y : ℤ) → negsuc i *ℤ x ≡ pos (suc j) *ℤ y → pos (suc i) *ℤ neg_ℤ x ≡ pos (suc j) *ℤ y
turn_first i j x y e = ring (pos (suc i) ∷ (x ∷ [])) (var 0 ⊗ neg (var 1)) (neg (var 0) ⊗ var 1) refl ∙ e
