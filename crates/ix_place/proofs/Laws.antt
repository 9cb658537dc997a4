-- Laws of transforms: images of points, and the identity.
use Rattle.std.proofs.Common.{◌≡◌, ℕ, ◌+◌, ◌*◌, ◌^◌, ℤ, pos, ◌+ℤ◌, ◌*ℤ◌, ◌≤ℤ◌, ◌<ℤ◌, arith, refl, ap, ◌∙◌}
use Rattle.std.proofs.lemmas.Int.{ints}
use Rattle.spec_num.specs.Rounding.{round_of}
use Rattle.spec_space.specs.declared.Vector.{Vector}
use Rattle.spec_space.specs.Points.{dot}
use Rattle.spec_place.specs.declared.transform.Transform.{Transform}
use Rattle.spec_place.specs.Vectors.{plus, times, divided, one, IsWithin}
use Rattle.spec_place.specs.Transforms.{identity, image, turned, row_times, composed, IsBounded}
use Rattle.ix_num.proofs.Division.{floor_low, floor_high}
use Rattle.ix_place.proofs.Sizes.{plus_within, times_within, dot_within}

-- the image of a point under a composed transform is that under the rounded products and the rounded offset
pub image-composed : (a b : Transform) (p : Vector) → image (composed a b) p ≡
    plus (record {
      x = dot (divided (row_times a.x b) one) p;
      y = dot (divided (row_times a.y b) one) p;
      z = dot (divided (row_times a.z b) one) p;
    }) (times one (plus a.off (divided (turned a b.off) one)))
image-composed a b p = refl

-- the identity leaves a point where it is
same_x : (x y z : ℤ) → one *ℤ x +ℤ pos 0 *ℤ y +ℤ pos 0 *ℤ z ≡ one *ℤ x
same_x x y z = omega (arith, ints)

same_y : (x y z : ℤ) → pos 0 *ℤ x +ℤ one *ℤ y +ℤ pos 0 *ℤ z ≡ one *ℤ y
same_y x y z = omega (arith, ints)

same_z : (x y z : ℤ) → pos 0 *ℤ x +ℤ pos 0 *ℤ y +ℤ one *ℤ z ≡ one *ℤ z
same_z x y z = omega (arith, ints)

no_offset : (a b : ℤ) → a ≡ b → a +ℤ one *ℤ pos 0 ≡ b
no_offset a b e = omega (arith, ints)

vectors : (u v : Vector) → u.x ≡ v.x → u.y ≡ v.y → u.z ≡ v.z → u ≡ v
vectors u v p q r = λ i. record { x = p i; y = q i; z = r i }

pub image-identity : (p : Vector) → image identity p ≡ times one p
image-identity p = vectors (image identity p) (times one p) (no_offset _ _ (same_x p.x p.y p.z)) (no_offset _ _ (same_y p.x p.y p.z)) (no_offset _ _ (same_z p.x p.y p.z))

-- how far an image lies
pub image-IsWithin : (t : Transform) (p : Vector) {m n k : ℕ} → IsBounded m n t → IsWithin k p → IsWithin ((m * k + m * k + m * k) + 10 ^ 9 * n) (image t p)
image-IsWithin t p {m} {n} {k} h g =
    plus_within (turned t p) (times one t.off) (record { x = dot_within t.x p h.x g; y = dot_within t.y p h.y g; z = dot_within t.z p h.z g })
    (times_within one t.off {m = 10 ^ 9} (omega arith) h.off)

-- within the identity a transform is itself
exact_by : (x q : ℤ) → (pos 2000000000 *ℤ q) ≤ℤ (pos 2 *ℤ (one *ℤ x) +ℤ one) → (pos 2 *ℤ (one *ℤ x) +ℤ one) <ℤ (pos 2000000000 *ℤ q +ℤ pos 2000000000) → q ≡ x
exact_by x q low high = omega (arith, ints)

exact : (x : ℤ) → round_of (one *ℤ x) one ≡ x
exact x =
    let positive : pos 0 <ℤ pos 2000000000 = omega (arith, ints) in
    exact_by x (round_of (one *ℤ x) one) (floor_low (pos 2 *ℤ (one *ℤ x) +ℤ one) (pos 2000000000) positive) (floor_high (pos 2 *ℤ (one *ℤ x) +ℤ one) (pos 2000000000) positive)

rounded_x : (x y z : ℤ) → round_of (one *ℤ x +ℤ pos 0 *ℤ y +ℤ pos 0 *ℤ z) one ≡ x
rounded_x x y z = ap (λ n. round_of n one) (same_x x y z) ∙ exact x

rounded_y : (x y z : ℤ) → round_of (pos 0 *ℤ x +ℤ one *ℤ y +ℤ pos 0 *ℤ z) one ≡ y
rounded_y x y z = ap (λ n. round_of n one) (same_y x y z) ∙ exact y

rounded_z : (x y z : ℤ) → round_of (pos 0 *ℤ x +ℤ pos 0 *ℤ y +ℤ one *ℤ z) one ≡ z
rounded_z x y z = ap (λ n. round_of n one) (same_z x y z) ∙ exact z

from_zero : (a b : ℤ) → a ≡ b → pos 0 +ℤ a ≡ b
from_zero a b e = omega (arith, ints)

transforms : (s t : Transform) → s.x ≡ t.x → s.y ≡ t.y → s.z ≡ t.z → s.off ≡ t.off → s ≡ t
transforms s t p q r o = λ i. record { x = p i; y = q i; z = r i; off = o i }

pub composed-identity : (t : Transform) → composed identity t ≡ t
composed-identity t = transforms (composed identity t) t
    (vectors _ t.x (rounded_x t.x.x t.y.x t.z.x) (rounded_x t.x.y t.y.y t.z.y) (rounded_x t.x.z t.y.z t.z.z))
    (vectors _ t.y (rounded_y t.x.x t.y.x t.z.x) (rounded_y t.x.y t.y.y t.z.y) (rounded_y t.x.z t.y.z t.z.z))
    (vectors _ t.z (rounded_z t.x.x t.y.x t.z.x) (rounded_z t.x.y t.y.y t.z.y) (rounded_z t.x.z t.y.z t.z.z))
    (vectors _ t.off (from_zero _ _ (rounded_x t.off.x t.off.y t.off.z)) (from_zero _ _ (rounded_y t.off.x t.off.y t.off.z)) (from_zero _ _ (rounded_z t.off.x t.off.y t.off.z)))
