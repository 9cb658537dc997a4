-- What is rounded is near: a printed corner is within half a micrometre of its exact image. A volume within 128 bits is one.
use Rattle.std.proofs.Common.{◌≡◌, ℕ, ◌*◌, ◌≤◌, ◌^◌, ℤ, pos, neg_ℤ, negsuc, ◌+ℤ◌, ◌-ℤ◌, ◌*ℤ◌, ◌<ℤ◌, ◌≤ℤ◌, Bool, true, false, Option, Some, None, IfSome, unsigned_abs, refl, sym, ◌∙◌, ap, subst, if◌then◌else◌, ◌&&◌, arith}
use Rattle.std.specs.Prelude.{int_le, int_lt}
use Rattle.std.specs.Int.{int_div_euclid}
use Rattle.std.proofs.lemmas.Int.{ints}
use Rattle.integer_laws.proofs.Ring.{*ℤ_assoc, *ℤ_comm}
use Rattle.spec_num.specs.Rounding.{round_of}
use Rattle.spec_num.specs.Words.{within_128_bits}
use Rattle.ix_num.proofs.Division.{floor_low, floor_high}
use Rattle.spec_space.specs.declared.Point.{Point}
use Rattle.spec_space.specs.Points.{IsPoint}
use Rattle.spec_place.specs.declared.transform.Transform.{Transform}
use Rattle.spec_page.specs.declared.Corner.{Corner}
use Rattle.spec_page.specs.World.{image_above, image_below, rounded_image}
use Rattle.spec_check.specs.Limits.{IsVolume}
use Rattle.spec_check.specs.Verdicts.{IsWithinHalf, IsNearImage}

twice_positive : (b : ℤ) → pos 0 <ℤ b → pos 0 <ℤ (pos 2 *ℤ b)
twice_positive b h = omega (arith, ints)

size_between : (v b : ℤ) → pos 0 <ℤ b → v ≤ℤ b → neg_ℤ b ≤ℤ v → unsigned_abs v ≤ unsigned_abs b
size_between v b h k l = omega (arith, ints)

upper : (a b p : ℤ) → (pos 2 *ℤ p) ≤ℤ (pos 2 *ℤ a +ℤ b) → (pos 2 *ℤ (p -ℤ a)) ≤ℤ b
upper a b p h = omega (arith, ints)

lower : (a b p : ℤ) → (pos 2 *ℤ a +ℤ b) <ℤ (pos 2 *ℤ p +ℤ pos 2 *ℤ b) → neg_ℤ b ≤ℤ (pos 2 *ℤ (p -ℤ a))
lower a b p h = omega (arith, ints)

within_product : (a b p : ℤ) → pos 0 <ℤ b → (pos 2 *ℤ p) ≤ℤ (pos 2 *ℤ a +ℤ b) → (pos 2 *ℤ a +ℤ b) <ℤ (pos 2 *ℤ p +ℤ pos 2 *ℤ b)
    → unsigned_abs (pos 2 *ℤ (p -ℤ a)) ≤ unsigned_abs b
within_product a b p h low high = size_between (pos 2 *ℤ (p -ℤ a)) b h (upper a b p low) (lower a b p high)

within_floor : (a b q : ℤ) → pos 0 <ℤ b → ((pos 2 *ℤ b) *ℤ q) ≤ℤ (pos 2 *ℤ a +ℤ b) → (pos 2 *ℤ a +ℤ b) <ℤ ((pos 2 *ℤ b) *ℤ q +ℤ pos 2 *ℤ b) → IsWithinHalf q a b
within_floor a b q h low high =
    let same : (pos 2 *ℤ b) *ℤ q ≡ pos 2 *ℤ (q *ℤ b) = *ℤ_assoc (pos 2) b q ∙ ap (λ z. pos 2 *ℤ z) (*ℤ_comm b q) in
    within_product a b (q *ℤ b) h (subst (λ z. z ≤ℤ (pos 2 *ℤ a +ℤ b)) same low) (subst (λ z. (pos 2 *ℤ a +ℤ b) <ℤ (z +ℤ pos 2 *ℤ b)) same high)

-- a rounded fraction
pub rounded_near : (n a b : ℤ) → pos 0 <ℤ b → n ≡ round_of a b → IsWithinHalf n a b
rounded_near n a b h e =
    subst (λ (m : ℤ). IsWithinHalf m a b) (sym e)
    (within_floor a b (round_of a b) h (floor_low (pos 2 *ℤ a +ℤ b) (pos 2 *ℤ b) (twice_positive b h)) (floor_high (pos 2 *ℤ a +ℤ b) (pos 2 *ℤ b) (twice_positive b h)))

below_positive : (p : Point) → IsPoint p → pos 0 <ℤ image_below p
below_positive p h = omega (arith, ints)

pub corner_near : (f : Transform) (grid : ℕ) (c : Corner) → IsPoint c.exact → c.printed ≡ rounded_image f grid c.exact → IsNearImage f grid c
corner_near f grid c h e = record {
  x = rounded_near c.printed.x (image_above f.x f.off.x grid c.exact) (image_below c.exact) (below_positive c.exact h) (ap (λ v. v.x) e);
  y = rounded_near c.printed.y (image_above f.y f.off.y grid c.exact) (image_below c.exact) (below_positive c.exact h) (ap (λ v. v.y) e);
  z = rounded_near c.printed.z (image_above f.z f.off.z grid c.exact) (image_below c.exact) (below_positive c.exact h) (ap (λ v. v.z) e);
}

told : (v : ℤ) (b : Bool) → (int_le (neg_ℤ (pos (2 ^ 127))) v && int_lt v (pos (2 ^ 127))) ≡ b → IfSome (if b then Some v else None) IsVolume
told v true e = ap (λ (b : Bool). if b then Some v else None) e
told v false e = tt

pub volume_within : (six : Option ℤ) (v : ℤ) → six ≡ within_128_bits v → IfSome six IsVolume
volume_within six v e = subst (λ (o : Option ℤ). IfSome o IsVolume) (sym e) (told v (int_le (neg_ℤ (pos (2 ^ 127))) v && int_lt v (pos (2 ^ 127))) refl)
