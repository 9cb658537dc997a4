-- The unit vector of one that is not zero has a part that is not small.
use Rattle.std.proofs.Common.{◌≡◌, ℕ, zero, suc, ◌+◌, ◌*◌, ◌<◌, ◌≤◌, Bool, true, false, ℤ, pos, negsuc, ◌+ℤ◌, ◌*ℤ◌, ◌≤ℤ◌, ◌<ℤ◌, unsigned_abs, arith, refl, sym, ap, ◌∙◌, inl, inr, mul-le-mul}
use Rattle.std.specs.Prelude.{int_lt, neg_ℤ, if◌then◌else◌}
use Rattle.std.specs.Int.{int_min}
use Rattle.std.proofs.Math.Nat.{mul-le-mul_left}
use Rattle.std.proofs.lemmas.Int.{ints, int_max_is, int_min_is}
use Rattle.std.proofs.lemmas.Bool.{cases_lt}
use Rattle.spec_num.specs.Rounding.{round_of}
use Rattle.spec_num.specs.Roots.{whole_root}
use Rattle.spec_space.specs.declared.Vector.{Vector}
use Rattle.spec_space.specs.Points.{dot}
use Rattle.spec_place.specs.Vectors.{divided, clamped, one, reversed, is_zero, IsWithin}
use Rattle.spec_place.specs.Directions.{unit}
use Rattle.spec_place.specs.Maps.{turned_to}
use Rattle.ix_num.proofs.Division.{floor_low, floor_high}
use Rattle.ix_num.proofs.Roots.{IsRoot, whole_root-is}
use Rattle.ix_place.proofs.Sizes.{within_true}

-- a fraction that is rounded to a small number is small
small_by : (n d : ℕ) (a q : ℤ) → unsigned_abs q ≤ n → (pos (2 * d) *ℤ q) ≤ℤ (pos 2 *ℤ a +ℤ pos d) → (pos 2 *ℤ a +ℤ pos d) <ℤ (pos (2 * d) *ℤ q +ℤ pos (2 * d)) → unsigned_abs a ≤ d * n + d
small_by n d a (pos k) h low high = let most : d * k ≤ d * n = mul-le-mul_left d h in omega (arith, ints)
small_by n d a (negsuc k) h low high = let most : d * suc k ≤ d * n = mul-le-mul_left d h in omega (arith, ints)

small : (n d : ℕ) (a : ℤ) → 0 < d → unsigned_abs (round_of a (pos d)) ≤ n → unsigned_abs a ≤ d * n + d
small n d a some_ h =
    let positive : pos 0 <ℤ pos (2 * d) = omega (arith, ints) in
    small_by n d a (round_of a (pos d)) h (floor_low (pos 2 *ℤ a +ℤ pos d) (pos (2 * d)) positive) (floor_high (pos 2 *ℤ a +ℤ pos d) (pos (2 * d)) positive)

-- what is clamped to a small number is that number
unclamped : (n : ℤ) → unsigned_abs (clamped n) ≤ 100 → unsigned_abs n ≤ 100
unclamped n h = omega (arith, ints, int_min_is n one, int_max_is (negsuc 999999999) (int_min n one))

scaled : (x : ℤ) (d : ℕ) → unsigned_abs (one *ℤ x) ≤ d * 100 + d → 1000000 * unsigned_abs x ≤ d
scaled x d h = omega (arith, ints)

-- a part of the unit vector that is at most 100 comes from a part that is small beside the length
small_part : (x : ℤ) (d : ℕ) → 0 < d → unsigned_abs (clamped (round_of (one *ℤ x) (pos d))) ≤ 100 → 1000000 * unsigned_abs x ≤ d
small_part x d some_ h = scaled x d (small 100 d (one *ℤ x) some_ (unclamped (round_of (one *ℤ x) (pos d)) h))

square_zero : (a : ℕ) → a * a ≡ 0 → a ≡ 0
square_zero zero e = refl
square_zero (suc a) e = absurd (omega arith)

-- not all parts are small beside the length
all_small : (a b c m : ℕ) → m * m ≤ a * a + b * b + c * c → 1000000 * a ≤ m → 1000000 * b ≤ m → 1000000 * c ≤ m → (a ≡ 0) × (b ≡ 0) × (c ≡ 0)
all_small a b c m root p q r =
    let x : (1000000 * a) * (1000000 * a) ≤ m * m = mul-le-mul p p in
    let y : (1000000 * b) * (1000000 * b) ≤ m * m = mul-le-mul q q in
    let z : (1000000 * c) * (1000000 * c) ≤ m * m = mul-le-mul r r in
    let none : a * a + b * b + c * c ≡ 0 = omega arith in
    (square_zero a (omega arith), square_zero b (omega arith), square_zero c (omega arith))

square_size : (x : ℤ) → x *ℤ x ≡ pos (unsigned_abs x * unsigned_abs x)
square_size (pos n) = refl
square_size (negsuc n) = refl

dot_size : (v : Vector) → dot v v ≡ pos (unsigned_abs v.x * unsigned_abs v.x + unsigned_abs v.y * unsigned_abs v.y + unsigned_abs v.z * unsigned_abs v.z)
dot_size v = rw (square_size v.x, square_size v.y, square_size v.z) refl

is_zero_by : (v : Vector) → unsigned_abs v.x ≡ 0 → unsigned_abs v.y ≡ 0 → unsigned_abs v.z ≡ 0 → is_zero v ≡ true
is_zero_by v p q r = rw (p, q, r) refl

positive_root : (n m : ℕ) → IsRoot n m → 0 < n → 0 < m
positive_root n zero h some_ = absurd (omega (arith, h.high))
positive_root n (suc m) h some_ = omega arith

-- the sum of the squares of the sizes
abbrev squares : Vector → ℕ
squares v = unsigned_abs v.x * unsigned_abs v.x + unsigned_abs v.y * unsigned_abs v.y + unsigned_abs v.z * unsigned_abs v.z

squares_size : (v : Vector) → unsigned_abs (dot v v) ≡ squares v
squares_size v = ap unsigned_abs (dot_size v)

some_square : (v : Vector) → is_zero v ≡ false → 0 < squares v
some_square v h = elim (cases_lt 0 (squares v)) [
  | inl lt ↦ lt
  | inr le ↦
      let x : unsigned_abs v.x ≡ 0 = square_zero (unsigned_abs v.x) (omega arith) in
      let y : unsigned_abs v.y ≡ 0 = square_zero (unsigned_abs v.y) (omega arith) in
      let z : unsigned_abs v.z ≡ 0 = square_zero (unsigned_abs v.z) (omega arith) in
      let clash : true ≡ false = sym (is_zero_by v x y z) ∙ h in cc
]

pub unit_large : (v : Vector) → is_zero v ≡ false → IsWithin 100 (unit v) → ⊥
unit_large v h k =
    let root = whole_root-is (unsigned_abs (dot v v)) in
    let length_ = whole_root (unsigned_abs (dot v v)) in
    let some_ : 0 < unsigned_abs (dot v v) = rw (squares_size v) (some_square v h) in
    let positive : 0 < length_ = positive_root (unsigned_abs (dot v v)) length_ root some_ in
    let low : length_ * length_ ≤ squares v = rw (← squares_size v) root.low in
    let none = all_small (unsigned_abs v.x) (unsigned_abs v.y) (unsigned_abs v.z) length_ low (small_part v.x length_ positive k.x) (small_part v.y length_ positive k.y) (small_part v.z length_ positive k.z) in
    let clash : true ≡ false = sym (is_zero_by v none.0 none.1 none.2) ∙ h in cc

opposite_size : (a : ℤ) (n : ℕ) → unsigned_abs (neg_ℤ a) ≤ n → unsigned_abs a ≤ n
opposite_size a n h = omega (arith, ints)

turned_size : (b : Bool) (v : Vector) (n : ℕ) → IsWithin n (if b then reversed v else v) → IsWithin n v
turned_size true v n h = record { x = opposite_size v.x n h.x; y = opposite_size v.y n h.y; z = opposite_size v.z n h.z }
turned_size false v n h = h

-- a unit normal stays a normal in units of 10^-7
pub normal_left : (side v : Vector) → is_zero v ≡ false → is_zero (divided (turned_to side (unit v)) (pos 100)) ≡ false
normal_left side v h = by (is_zero (divided (turned_to side (unit v)) (pos 100))) refl
  where
    large : IsWithin 0 (divided (turned_to side (unit v)) (pos 100)) → ⊥
    large k = unit_large v h (turned_size (int_lt (dot side (unit v)) (pos 0)) (unit v) 100 (record {
      x = small 0 100 (turned_to side (unit v)).x (omega arith) k.x;
      y = small 0 100 (turned_to side (unit v)).y (omega arith) k.y;
      z = small 0 100 (turned_to side (unit v)).z (omega arith) k.z;
    }))

    by : (b : Bool) → is_zero (divided (turned_to side (unit v)) (pos 100)) ≡ b → b ≡ false
    by true e = absurd (large (within_true (divided (turned_to side (unit v)) (pos 100)) 0 e))
    by false e = refl
