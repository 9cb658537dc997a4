-- Sizes of what is computed of vectors.
use Rattle.std.proofs.Common.{◌≡◌, ℕ, ◌+◌, ◌*◌, ◌<◌, ◌≤◌, ◌^◌, suc, mul-le-mul, ℤ, pos, negsuc, neg_ℤ, ◌+ℤ◌, ◌*ℤ◌, ◌≤ℤ◌, ◌<ℤ◌, unsigned_abs, FitsSigned, to_z, of_z, arith, T, leb, leb→le, inl, inr, Bool, true, false, refl}
use Rattle.std.proofs.Math.Nat.{mul-le-mul_left}
use Rattle.std.proofs.lemmas.Bool.{cases_lt, leb-true}
use Rattle.std.specs.Prelude.{◌&&◌, nat_le}
use Rattle.std.proofs.lemmas.Int.{ints, to_z-of_z}
use mir.Syntax.{w128}
use Rattle.spec_num.specs.Rounding.{round_of}
use Rattle.spec_space.specs.declared.Vector.{Vector}
use Rattle.spec_space.specs.Points.{minus, cross, dot}
use Rattle.spec_place.specs.Vectors.{plus, times, reversed, divided, is_within, IsWithin}
use Rattle.integer_laws.proofs.Sizes.{size_add, size_sub, size_mul}
use Rattle.ix_num.proofs.Division.{floor_low, floor_high}

up_to : (a m n : ℕ) → a ≤ m → m ≤ n → a ≤ n
up_to a m n p q = omega arith

-- a vector within a bound is within a greater one
pub wider : (v : Vector) {m n : ℕ} → IsWithin m v → T (leb m n) → IsWithin n v
wider v {m} {n} h t = let le = leb→le m n t in record {
  x = up_to (unsigned_abs v.x) m n h.x le;
  y = up_to (unsigned_abs v.y) m n h.y le;
  z = up_to (unsigned_abs v.z) m n h.z le;
}

pub wider_number : (a : ℤ) {m n : ℕ} → unsigned_abs a ≤ m → T (leb m n) → unsigned_abs a ≤ n
wider_number a {m} {n} h t = up_to (unsigned_abs a) m n h (leb→le m n t)

pub plus_within : (u v : Vector) {m n : ℕ} → IsWithin m u → IsWithin n v → IsWithin (m + n) (plus u v)
plus_within u v {m} {n} h k = record { x = size_add u.x v.x m n h.x k.x; y = size_add u.y v.y m n h.y k.y; z = size_add u.z v.z m n h.z k.z }

pub minus_within : (u v : Vector) {m n : ℕ} → IsWithin m u → IsWithin n v → IsWithin (m + n) (minus u v)
minus_within u v {m} {n} h k = record { x = size_sub u.x v.x m n h.x k.x; y = size_sub u.y v.y m n h.y k.y; z = size_sub u.z v.z m n h.z k.z }

pub times_within : (k : ℤ) (v : Vector) {m n : ℕ} → unsigned_abs k ≤ m → IsWithin n v → IsWithin (m * n) (times k v)
times_within k v {m} {n} p h = record { x = size_mul k v.x m n p h.x; y = size_mul k v.y m n p h.y; z = size_mul k v.z m n p h.z }

pub dot_within : (u v : Vector) {m n : ℕ} → IsWithin m u → IsWithin n v → unsigned_abs (dot u v) ≤ m * n + m * n + m * n
dot_within u v {m} {n} h k =
    size_add (u.x *ℤ v.x +ℤ u.y *ℤ v.y) (u.z *ℤ v.z) (m * n + m * n) (m * n)
    (size_add (u.x *ℤ v.x) (u.y *ℤ v.y) (m * n) (m * n) (size_mul u.x v.x m n h.x k.x) (size_mul u.y v.y m n h.y k.y))
    (size_mul u.z v.z m n h.z k.z)

pub cross_within : (u v : Vector) {m n : ℕ} → IsWithin m u → IsWithin n v → IsWithin (m * n + m * n) (cross u v)
cross_within u v {m} {n} h k = record {
  x = size_sub (u.y *ℤ v.z) (u.z *ℤ v.y) (m * n) (m * n) (size_mul u.y v.z m n h.y k.z) (size_mul u.z v.y m n h.z k.y);
  y = size_sub (u.z *ℤ v.x) (u.x *ℤ v.z) (m * n) (m * n) (size_mul u.z v.x m n h.z k.x) (size_mul u.x v.z m n h.x k.z);
  z = size_sub (u.x *ℤ v.y) (u.y *ℤ v.x) (m * n) (m * n) (size_mul u.x v.y m n h.x k.y) (size_mul u.y v.x m n h.y k.x);
}

negated : (a : ℤ) (n : ℕ) → unsigned_abs a ≤ n → unsigned_abs (neg_ℤ a) ≤ n
negated a n h = omega (arith, ints)

pub reversed_within : (v : Vector) {n : ℕ} → IsWithin n v → IsWithin n (reversed v)
reversed_within v {n} h = record { x = negated v.x n h.x; y = negated v.y n h.y; z = negated v.z n h.z }

-- the quotient q of 2a + d and 2d, rounded down
between : (n d : ℕ) (a q : ℤ) → unsigned_abs a ≤ n * d → (pos (2 * d) *ℤ q) ≤ℤ (pos 2 *ℤ a +ℤ pos d) → (pos 2 *ℤ a +ℤ pos d) <ℤ (pos (2 * d) *ℤ q +ℤ pos (2 * d)) → unsigned_abs q ≤ n
between n d a (pos k) h low high = elim (cases_lt n k) [
  | inr le ↦ le
  | inl lt ↦ let more : d * suc n ≤ d * k = mul-le-mul_left d lt in absurd (omega (arith, ints))
]
between n d a (negsuc k) h low high = elim (cases_lt k n) [
  | inl lt ↦ lt
  | inr le ↦ let more : d * n ≤ d * k = mul-le-mul_left d le in absurd (omega (arith, ints))
]

-- a fraction of a size of at most n is rounded to a number of a size of at most n
rounded : (n d : ℕ) (a : ℤ) → 0 < d → unsigned_abs a ≤ n * d → unsigned_abs (round_of a (pos d)) ≤ n
rounded n d a some_ h =
    let positive : pos 0 <ℤ pos (2 * d) = omega (arith, ints) in
    between n d a (round_of a (pos d)) h (floor_low (pos 2 *ℤ a +ℤ pos d) (pos (2 * d)) positive) (floor_high (pos 2 *ℤ a +ℤ pos d) (pos (2 * d)) positive)

pub divided_within : (v : Vector) (d : ℕ) {n : ℕ} → T (leb 1 d) → IsWithin (n * d) v → IsWithin n (divided v (pos d))
divided_within v d {n} t h = let some_ = leb→le 1 d t in record { x = rounded n d v.x some_ h.x; y = rounded n d v.y some_ h.y; z = rounded n d v.z some_ h.z }

-- a number whose square is small is small
pub root_small : (r : ℤ) → (r *ℤ r) ≤ℤ pos (3 * 10 ^ 36) → r ≤ℤ pos (2 ^ 62)
root_small (negsuc k) h = omega (arith, ints)
root_small (pos k) h = elim (cases_lt k (2 ^ 62)) [
  | inl lt ↦ omega (arith, ints)
  | inr le ↦ let more : 2 ^ 62 * 2 ^ 62 ≤ k * k = mul-le-mul le le in absurd (omega (arith, ints))
]

pub square_bound : (v : Vector) (r : ℤ) → IsWithin (10 ^ 18) v → (r *ℤ r) ≤ℤ dot v v → r ≤ℤ pos (2 ^ 62)
square_bound v r h low = root_small r (under (r *ℤ r) (dot v v) (3 * 10 ^ 36) low (dot_within v v h h))
  where
    under : (a b : ℤ) (n : ℕ) → a ≤ℤ b → unsigned_abs b ≤ n → a ≤ℤ pos n
    under a b n p q = omega (arith, ints)

-- what code has passed is within the bound of the number that it is
pub in_code : (d e : ℤ) {n : ℕ} → FitsSigned w128 d → d ≡ e → unsigned_abs e ≤ n → unsigned_abs (to_z w128 (of_z w128 d)) ≤ n
in_code d e {n} fits is h = simp to_z-of_z (rw is h)

pub rest_first : (r t : Vector) → t ≡ times (pos (10 ^ 18)) r → IsWithin (10 ^ 9) r → IsWithin (10 ^ 27) t
rest_first r t is h = rw is (wider (times (pos (10 ^ 18)) r) (times_within (pos (10 ^ 18)) r {m = 10 ^ 18} (leb→le (10 ^ 18) (10 ^ 18) tt) h) tt)

pub rest_second : (axis t : Vector) (k : ℤ) → t ≡ times k axis → unsigned_abs k ≤ 3 * 10 ^ 18 → IsWithin (10 ^ 9) axis → IsWithin (3 * 10 ^ 27) t
rest_second axis t k is small h = rw is (wider (times k axis) (times_within k axis small h) tt)

pub and_left : (a b : Bool) → (a && b) ≡ true → a ≡ true
and_left true b e = refl
and_left false b e = e

pub and_right : (a b : Bool) → (a && b) ≡ true → b ≡ true
and_right true b e = e
and_right false b e = cc

-- the test of a bound
pub within_true : (v : Vector) (n : ℕ) → is_within n v ≡ true → IsWithin n v
within_true v n e =
    let first = nat_le (unsigned_abs v.x) n in
    let second = nat_le (unsigned_abs v.y) n in
    let third = nat_le (unsigned_abs v.z) n in
    let both = and_left (first && second) third e in
    record {
      x = leb-true (unsigned_abs v.x) n (and_left first second both);
      y = leb-true (unsigned_abs v.y) n (and_right first second both);
      z = leb-true (unsigned_abs v.z) n (and_right (first && second) third e);
    }

-- the same of a product of vectors that code has passed
pub coded_dot : (d : ℤ) (u v : Vector) {m n k : ℕ} → FitsSigned w128 d → d ≡ dot u v → IsWithin m u → IsWithin n v → T (leb (m * n + m * n + m * n) k) → unsigned_abs (to_z w128 (of_z w128 d)) ≤ k
coded_dot d u v {m} {n} {k} fits is h g t = in_code d (dot u v) fits is (wider_number (dot u v) (dot_within u v h g) t)

-- a number divided by so many units of a step, of which there is at least one
pub stepped : (v w : Vector) (d : ℤ) (n unit step : ℕ) → FitsSigned w128 d → d ≡ pos (unit * step) → 0 < unit → 1 ≤ step → w ≡ divided v (to_z w128 (of_z w128 d)) → IsWithin (n * unit) v → IsWithin n w
stepped v w d n unit step fits is some_ low result_ h =
    rw result_ (simp to_z-of_z (rw is (record {
      x = rounded n (unit * step) v.x (positive unit step some_ low) (grown (unsigned_abs v.x) n unit step low h.x);
      y = rounded n (unit * step) v.y (positive unit step some_ low) (grown (unsigned_abs v.y) n unit step low h.y);
      z = rounded n (unit * step) v.z (positive unit step some_ low) (grown (unsigned_abs v.z) n unit step low h.z);
    })))
  where
    positive : (unit step : ℕ) → 0 < unit → 1 ≤ step → 0 < unit * step
    positive unit step p q = let more : 1 * 1 ≤ unit * step = mul-le-mul p q in omega arith

    grown : (a n unit step : ℕ) → 1 ≤ step → a ≤ n * unit → a ≤ n * (unit * step)
    grown a n unit step low h =
        let more : unit * 1 ≤ unit * step = mul-le-mul_left unit low in
        let all : n * (unit * 1) ≤ n * (unit * step) = mul-le-mul_left n more in
        omega arith
