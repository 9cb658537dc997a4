-- Divisions that round down, one after the other.
use Rattle.std.proofs.Common.{◌≡◌, ℕ, ◌*◌, ◌≤◌, ◌<◌, ℤ, pos, negsuc, ◌+ℤ◌, ◌*ℤ◌, ◌<ℤ◌, ◌≤ℤ◌, unsigned_abs, [], ◌∷◌, refl, arith}
use Rattle.std.proofs.lemmas.Int.{ints}
use Rattle.std.proofs.Math.Nat.{div-le_of_le-mul, div-lt_iff_lt-mul, div-le_self}
use Rattle.std.specs.Int.{int_div_euclid, int_rem_euclid}
use Rattle.integer_laws.proofs.Ring.{var, con, ◌⊕◌, ◌⊗◌, ring, *ℤ_comm}
use Rattle.integer_laws.proofs.Signs.{mul_positive, scaled_le, unscaled_lt}
use Rattle.ix_num.proofs.Division.{floor_low, floor_high}

-- ---- one whole number lies between the bounds of a division
not_above : (n d q r : ℤ) → pos 0 <ℤ d → (d *ℤ r) ≤ℤ n → n <ℤ (d *ℤ q +ℤ d) → r <ℤ (q +ℤ pos 1)
not_above n d q r positive low high = unscaled_lt r (q +ℤ pos 1) d positive (between (r *ℤ d) (d *ℤ r) n (d *ℤ q +ℤ d) ((q +ℤ pos 1) *ℤ d) (*ℤ_comm r d) low high (ring (d ∷ (q ∷ [])) (var 0 ⊗ var 1 ⊕ var 0) ((var 1 ⊕ con (pos 1)) ⊗ var 0) refl))
  where
    between : (a b n c e : ℤ) → a ≡ b → b ≤ℤ n → n <ℤ c → c ≡ e → a <ℤ e
    between a b n c e p low high q = omega (arith, ints)

one_floor : (n d q r : ℤ) → pos 0 <ℤ d → (d *ℤ q) ≤ℤ n → n <ℤ (d *ℤ q +ℤ d) → (d *ℤ r) ≤ℤ n → n <ℤ (d *ℤ r +ℤ d) → q ≡ r
one_floor n d q r positive q_low q_high r_low r_high = same q r (not_above n d q r positive r_low q_high) (not_above n d r q positive q_low r_high)
  where
    same : (q r : ℤ) → r <ℤ (q +ℤ pos 1) → q <ℤ (r +ℤ pos 1) → q ≡ r
    same q r h k = omega (arith, ints)

-- a division by a product is one division after the other
pub floor_by_parts : (a b w d : ℤ) → pos 0 <ℤ w → pos 0 <ℤ d → int_div_euclid (a +ℤ int_div_euclid b w) d ≡ int_div_euclid (a *ℤ w +ℤ b) (d *ℤ w)
floor_by_parts a b w d positive ahead =
    let q = int_div_euclid b w in
    let s = int_div_euclid (a +ℤ q) d in
    let both = mul_positive d w ahead positive in
    one_floor (a *ℤ w +ℤ b) (d *ℤ w) s (int_div_euclid (a *ℤ w +ℤ b) (d *ℤ w)) both
    (below ((d *ℤ w) *ℤ s) ((d *ℤ s) *ℤ w) ((a +ℤ q) *ℤ w) (a *ℤ w) (w *ℤ q) b
    (ring (d ∷ (w ∷ (s ∷ []))) (var 0 ⊗ var 1 ⊗ var 2) (var 0 ⊗ var 2 ⊗ var 1) refl)
    (scaled_le (d *ℤ s) (a +ℤ q) w positive (floor_low (a +ℤ q) d ahead))
    (ring (a ∷ (q ∷ (w ∷ []))) ((var 0 ⊕ var 1) ⊗ var 2) (var 0 ⊗ var 2 ⊕ var 2 ⊗ var 1) refl)
    (floor_low b w positive))
    (above ((a +ℤ q +ℤ pos 1) *ℤ w) ((d *ℤ s +ℤ d) *ℤ w) ((d *ℤ w) *ℤ s +ℤ d *ℤ w) (a *ℤ w) (w *ℤ q) w b
    (ring (d ∷ (w ∷ (s ∷ []))) ((var 0 ⊗ var 2 ⊕ var 0) ⊗ var 1) (var 0 ⊗ var 1 ⊗ var 2 ⊕ var 0 ⊗ var 1) refl)
    (scaled_le (a +ℤ q +ℤ pos 1) (d *ℤ s +ℤ d) w positive (next (a +ℤ q) (d *ℤ s +ℤ d) (floor_high (a +ℤ q) d ahead)))
    (ring (a ∷ (q ∷ (w ∷ []))) ((var 0 ⊕ var 1 ⊕ con (pos 1)) ⊗ var 2) (var 0 ⊗ var 2 ⊕ var 2 ⊗ var 1 ⊕ var 2) refl)
    (floor_high b w positive))
    (floor_low (a *ℤ w +ℤ b) (d *ℤ w) both) (floor_high (a *ℤ w +ℤ b) (d *ℤ w) both)
  where
    below : (x y z a q b : ℤ) → x ≡ y → y ≤ℤ z → z ≡ a +ℤ q → q ≤ℤ b → x ≤ℤ (a +ℤ b)
    below x y z a q b e h f k = omega (arith, ints)

    next : (n m : ℤ) → n <ℤ m → (n +ℤ pos 1) ≤ℤ m
    next n m h = omega (arith, ints)

    above : (z y x a q w b : ℤ) → y ≡ x → z ≤ℤ y → z ≡ a +ℤ q +ℤ w → b <ℤ (q +ℤ w) → (a +ℤ b) <ℤ x
    above z y x a q w b e h f k = omega (arith, ints)

-- ---- whole parts and rests
pub whole_and_rest : (a w : ℤ) → pos 0 <ℤ w → a ≡ int_div_euclid a w *ℤ w +ℤ int_rem_euclid a w
whole_and_rest (pos a) (pos w) h = omega (arith, ints)
whole_and_rest (negsuc a) (pos w) h = omega (arith, ints)
whole_and_rest a (negsuc w) h = absurd h.lt

pub rest_below : (a w : ℤ) → pos 0 <ℤ w → unsigned_abs (int_rem_euclid a w) ≤ unsigned_abs w
rest_below (pos a) (pos w) h = omega (arith, ints)
rest_below (negsuc a) (pos w) h = omega (arith, ints)
rest_below a (negsuc w) h = absurd h.lt

-- a whole part keeps the bound of the number
pub whole_within : (a w : ℤ) (n : ℕ) → pos 0 <ℤ w → unsigned_abs a ≤ n * unsigned_abs w → unsigned_abs (int_div_euclid a w) ≤ n
whole_within (pos a) (pos w) n h small = div-le_of_le-mul w {m = a} {n = n} (omega arith)
whole_within (negsuc a) (pos w) n h small = let p : 0 < w = omega (arith, ints) in (div-lt_iff_lt-mul {k = w} {x = a} {y = n} p).1 (omega arith)
whole_within a (negsuc w) n h small = absurd h.lt

-- the size of a whole part is at most that of the number
pub whole_smaller : (a w : ℤ) (n : ℕ) → pos 0 <ℤ w → unsigned_abs a ≤ n → unsigned_abs (int_div_euclid a w) ≤ n
whole_smaller (pos a) (pos w) n h small = omega (arith, div-le_self a w)
whole_smaller (negsuc a) (pos w) n h small = omega (arith, div-le_self a w)
whole_smaller a (negsuc w) n h small = absurd h.lt
