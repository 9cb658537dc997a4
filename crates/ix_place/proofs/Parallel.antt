-- No axis is along both x and y.
use Rattle.std.proofs.Common.{◌≡◌, ℕ, ◌+◌, ◌*◌, ◌^◌, ◌≤◌, Bool, true, false, ℤ, pos, ◌+ℤ◌, ◌-ℤ◌, ◌*ℤ◌, ◌≤ℤ◌, ◌<ℤ◌, unsigned_abs, arith, refl, subst, inl, inr, [], ◌∷◌, mul-le-mul}
use Rattle.std.proofs.lemmas.Int.{ints, unsigned_abs-mul}
use Rattle.std.proofs.lemmas.Bool.{cases_lt}
use Rattle.spec_num.specs.Rounding.{round_of}
use Rattle.spec_space.specs.declared.Vector.{Vector}
use Rattle.spec_place.specs.Vectors.{is_zero, IsWithin, one, along_x, along_y}
use Rattle.spec_place.specs.Axes.{rest, vanishes}
use Rattle.integer_laws.proofs.Ring.{var, con, ◌⊕◌, ◌⊗◌, ◌⊖◌, ring}
use Rattle.ix_num.proofs.Division.{floor_low, floor_high}
use Rattle.ix_place.proofs.Sizes.{within_true}

-- a fraction that is rounded to a small number is small
unrounded_by : (a q : ℤ) (n : ℕ) → unsigned_abs q ≤ n → (pos (2 * 10 ^ 15) *ℤ q) ≤ℤ (pos 2 *ℤ a +ℤ pos (10 ^ 15)) → (pos 2 *ℤ a +ℤ pos (10 ^ 15)) <ℤ (pos (2 * 10 ^ 15) *ℤ q +ℤ pos (2 * 10 ^ 15)) → unsigned_abs a ≤ (n + 1) * 10 ^ 15
unrounded_by a q n h low high = omega (arith, ints)

unrounded : (a : ℤ) (n : ℕ) → unsigned_abs (round_of a (pos (10 ^ 15))) ≤ n → unsigned_abs a ≤ (n + 1) * 10 ^ 15
unrounded a n h =
    let positive : pos 0 <ℤ pos (2 * 10 ^ 15) = omega (arith, ints) in
    unrounded_by a (round_of a (pos (10 ^ 15))) n h (floor_low (pos 2 *ℤ a +ℤ pos (10 ^ 15)) (pos (2 * 10 ^ 15)) positive) (floor_high (pos 2 *ℤ a +ℤ pos (10 ^ 15)) (pos (2 * 10 ^ 15)) positive)

-- the parts of what is left of x and of y, before they are divided
abbrev x_left_of_x : (p q r : ℤ) → ℤ
x_left_of_x p q r = pos (10 ^ 18) *ℤ one -ℤ (one *ℤ p +ℤ pos 0 *ℤ q +ℤ pos 0 *ℤ r) *ℤ p

abbrev y_left_of_x : (p q r : ℤ) → ℤ
y_left_of_x p q r = pos (10 ^ 18) *ℤ pos 0 -ℤ (one *ℤ p +ℤ pos 0 *ℤ q +ℤ pos 0 *ℤ r) *ℤ q

abbrev y_left_of_y : (p q r : ℤ) → ℤ
y_left_of_y p q r = pos (10 ^ 18) *ℤ one -ℤ (pos 0 *ℤ p +ℤ one *ℤ q +ℤ pos 0 *ℤ r) *ℤ q

x_of_x : (p q r : ℤ) → x_left_of_x p q r ≡ pos (10 ^ 27) -ℤ pos (10 ^ 9) *ℤ (p *ℤ p)
x_of_x p q r = ring (p ∷ (q ∷ (r ∷ [])))
    (con (pos (10 ^ 18)) ⊗ con one ⊖ (con one ⊗ var 0 ⊕ con (pos 0) ⊗ var 1 ⊕ con (pos 0) ⊗ var 2) ⊗ var 0)
    (con (pos (10 ^ 27)) ⊖ con (pos (10 ^ 9)) ⊗ (var 0 ⊗ var 0)) refl

y_of_x : (p q r : ℤ) → y_left_of_x p q r ≡ pos 0 -ℤ pos (10 ^ 9) *ℤ (p *ℤ q)
y_of_x p q r = ring (p ∷ (q ∷ (r ∷ [])))
    (con (pos (10 ^ 18)) ⊗ con (pos 0) ⊖ (con one ⊗ var 0 ⊕ con (pos 0) ⊗ var 1 ⊕ con (pos 0) ⊗ var 2) ⊗ var 1)
    (con (pos 0) ⊖ con (pos (10 ^ 9)) ⊗ (var 0 ⊗ var 1)) refl

y_of_y : (p q r : ℤ) → y_left_of_y p q r ≡ pos (10 ^ 27) -ℤ pos (10 ^ 9) *ℤ (q *ℤ q)
y_of_y p q r = ring (p ∷ (q ∷ (r ∷ [])))
    (con (pos (10 ^ 18)) ⊗ con one ⊖ (con (pos 0) ⊗ var 0 ⊕ con one ⊗ var 1 ⊕ con (pos 0) ⊗ var 2) ⊗ var 1)
    (con (pos (10 ^ 27)) ⊖ con (pos (10 ^ 9)) ⊗ (var 1 ⊗ var 1)) refl

-- a part whose square is nearly 10^18 is not small
large : (a : ℕ) → 10 ^ 17 ≤ a * a → 10 ^ 8 ≤ a
large a h = elim (cases_lt a (10 ^ 8)) [
  | inr le ↦ le
  | inl lt ↦ let below : a ≤ 10 ^ 8 = omega arith in let most : a * a ≤ 10 ^ 8 * 10 ^ 8 = mul-le-mul below below in absurd (omega arith)
]

great_square : (s : ℤ) (n : ℕ) → n ≤ 10 ^ 21 → unsigned_abs (pos (10 ^ 27) -ℤ pos (10 ^ 9) *ℤ s) ≤ n → 10 ^ 17 ≤ unsigned_abs s
great_square s n small h = omega (arith, ints)

small_product : (s : ℤ) → unsigned_abs (pos 0 -ℤ pos (10 ^ 9) *ℤ s) ≤ 10 ^ 21 → unsigned_abs s ≤ 10 ^ 12
small_product s h = omega (arith, ints)

clash : (p q : ℤ) → 10 ^ 17 ≤ unsigned_abs (p *ℤ p) → unsigned_abs (p *ℤ q) ≤ 10 ^ 12 → 10 ^ 17 ≤ unsigned_abs (q *ℤ q) → ⊥
clash p q h k l =
    let first : 10 ^ 8 ≤ unsigned_abs p = large (unsigned_abs p) (rw (← unsigned_abs-mul p p) h) in
    let second : 10 ^ 8 ≤ unsigned_abs q = large (unsigned_abs q) (rw (← unsigned_abs-mul q q) l) in
    let product : 10 ^ 8 * 10 ^ 8 ≤ unsigned_abs p * unsigned_abs q = mul-le-mul first second in
    let most : unsigned_abs p * unsigned_abs q ≤ 10 ^ 12 = rw (← unsigned_abs-mul p q) k in
    omega arith

both_vanish : (v : Vector) → IsWithin 999999 (rest v along_x) → IsWithin 0 (rest v along_y) → ⊥
both_vanish v h k =
    clash v.x v.y
    (great_square (v.x *ℤ v.x) (10 ^ 21) (omega arith) (subst (λ a. unsigned_abs a ≤ 10 ^ 21) (x_of_x v.x v.y v.z) (unrounded (x_left_of_x v.x v.y v.z) 999999 h.x)))
    (small_product (v.x *ℤ v.y) (subst (λ a. unsigned_abs a ≤ 10 ^ 21) (y_of_x v.x v.y v.z) (unrounded (y_left_of_x v.x v.y v.z) 999999 h.y)))
    (great_square (v.y *ℤ v.y) (10 ^ 15) (omega arith) (subst (λ a. unsigned_abs a ≤ 10 ^ 15) (y_of_y v.x v.y v.z) (unrounded (y_left_of_y v.x v.y v.z) 0 k.y)))

-- where nothing is left of x, something is left of y
pub second_left : (v : Vector) → vanishes (rest v along_x) ≡ true → is_zero (rest v along_y) ≡ false
second_left v h = by (is_zero (rest v along_y)) refl
  where
    by : (b : Bool) → is_zero (rest v along_y) ≡ b → b ≡ false
    by true e = absurd (both_vanish v (within_true (rest v along_x) 999999 h) (within_true (rest v along_y) 0 e))
    by false e = refl
