-- What code computes for a coordinate, and how large it is.
use Rattle.std.proofs.Common.{◌≡◌, ℕ, ◌+◌, ◌*◌, ◌≤◌, ◌^◌, ℤ, pos, ◌<ℤ◌, ◌*ℤ◌, unsigned_abs, T, leb, refl, ap₂, ◌∙◌, arith}
use Rattle.std.specs.Int.{int_div_euclid}
use Rattle.integer_laws.proofs.Computed.{Is}
use Rattle.integer_laws.proofs.Sizes.{size_mul}
use Rattle.plane_core.proofs.Sizes.{after, small}
use Rattle.spec_space.specs.declared.Vector.{Vector}
use Rattle.spec_space.specs.Points.{dot}
use Rattle.spec_place.specs.Vectors.{IsWithin}
use Rattle.ix_place.proofs.Sizes.{dot_within, wider_number}
use Rattle.world_print.specs.Ranges.{IsStep}
use Rattle.world_print.proofs.Floors.{whole_smaller}

pub itself : (v : ℤ) {n : ℕ} → unsigned_abs v ≤ n → Is v v n
itself v {n} h = record { is = refl; size = h }

pub number_is : (n : ℕ) → Is (pos n) (pos n) n
number_is n = record { is = refl; size = same n }
  where
    same : (n : ℕ) → n ≤ n
    same n = omega arith

-- a computed number within a greater bound
pub within : {z v : ℤ} {m n : ℕ} → Is z v m → T (leb m n) → unsigned_abs z ≤ n
within {z} {v} {m} {n} h t = wider_number z (small h) t

-- a row times a vector, as it was returned
pub dot_is : (row v : Vector) (result : ℤ) {n : ℕ} → result ≡ dot row v → IsWithin (10 ^ 9) row → IsWithin n v → Is result (dot row v) (10 ^ 9 * n + 10 ^ 9 * n + 10 ^ 9 * n)
dot_is row v result {n} e h k = after e (itself (dot row v) (dot_within row v {m = 10 ^ 9} {n = n} h k))

-- the grid step
pub step_is : (step : ℕ) (z : ℤ) → z ≡ pos step → IsStep step → Is z (pos step) (10 ^ 4)
step_is step z e range = after e (itself (pos step) range.most)

-- the whole part of twice a rest
pub parts_is : (rest w z x y : ℤ) → z ≡ int_div_euclid x y → x ≡ pos 2 *ℤ rest → y ≡ w → pos 0 <ℤ w → unsigned_abs rest ≤ 3 * 10 ^ 13 * (6 * 2 ^ 78)
    → Is z (int_div_euclid (pos 2 *ℤ rest) w) (2 * (3 * 10 ^ 13 * (6 * 2 ^ 78)))
parts_is rest w z x y e ex ey positive size =
    after (e ∙ ap₂ int_div_euclid ex ey)
    (itself (int_div_euclid (pos 2 *ℤ rest) w) (whole_smaller (pos 2 *ℤ rest) w (2 * (3 * 10 ^ 13 * (6 * 2 ^ 78))) positive (size_mul (pos 2) rest 2 (3 * 10 ^ 13 * (6 * 2 ^ 78)) (number_is 2).size size)))
