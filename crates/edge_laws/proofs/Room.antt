-- The room strictly inside the enclosing cube, by its six sides.
use Rattle.std.proofs.Common.{◌≡◌, List, [], ◌∷◌, ℤ, pos, negsuc, ◌+ℤ◌, ◌-ℤ◌, ◌*ℤ◌, ◌<ℤ◌, ◌≤ℤ◌, refl, sym, ap, ◌∙◌, subst, arith}
use Rattle.std.proofs.lemmas.Int.{ints}
use Rattle.integer_laws.proofs.Ring.{var, con, ◌⊕◌, ◌⊗◌, ◌⊖◌, ring}
use Rattle.spec_space.specs.declared.Point.{Point}
use Rattle.spec_space.specs.declared.Plane.{Plane}
use Rattle.spec_space.specs.Points.{IsPoint, value}
use Rattle.convex_cycles.proofs.Lists.{Each}
use Rattle.poly_frag.specs.Cubes.{IsInsideCube}
use Rattle.face_walk.specs.Faces.{IsInRange}

-- ---- by plain numbers
low_side : (x y z k : ℤ) → k <ℤ x → pos 0 <ℤ (pos 1 *ℤ x +ℤ pos 0 *ℤ y +ℤ pos 0 *ℤ z -ℤ k)
low_side x y z k h = omega (arith, ints)

from_low : (x y z k : ℤ) → pos 0 <ℤ (pos 1 *ℤ x +ℤ pos 0 *ℤ y +ℤ pos 0 *ℤ z -ℤ k) → k <ℤ x
from_low x y z k h = omega (arith, ints)

high_side : (x y z k m : ℤ) → m ≡ pos 0 -ℤ k → x <ℤ k → pos 0 <ℤ (negsuc 0 *ℤ x +ℤ pos 0 *ℤ y +ℤ pos 0 *ℤ z -ℤ m)
high_side x y z k m e h = omega (arith, ints)

from_high : (x y z k m : ℤ) → m ≡ pos 0 -ℤ k → pos 0 <ℤ (negsuc 0 *ℤ x +ℤ pos 0 *ℤ y +ℤ pos 0 *ℤ z -ℤ m) → x <ℤ k
from_high x y z k m e h = omega (arith, ints)

-- ---- the sides
abbrev low_x : ℤ → Plane
low_x d = record { a = pos 1; b = pos 0; c = pos 0; d = d }

abbrev high_x : ℤ → Plane
high_x d = record { a = negsuc 0; b = pos 0; c = pos 0; d = d }

abbrev low_y : ℤ → Plane
low_y d = record { a = pos 0; b = pos 1; c = pos 0; d = d }

abbrev high_y : ℤ → Plane
high_y d = record { a = pos 0; b = negsuc 0; c = pos 0; d = d }

abbrev low_z : ℤ → Plane
low_z d = record { a = pos 0; b = pos 0; c = pos 1; d = d }

abbrev high_z : ℤ → Plane
high_z d = record { a = pos 0; b = pos 0; c = negsuc 0; d = d }

middle_low : (x y z k : ℤ) → k <ℤ y → pos 0 <ℤ (pos 0 *ℤ x +ℤ pos 1 *ℤ y +ℤ pos 0 *ℤ z -ℤ k)
middle_low x y z k h = omega (arith, ints)

from_middle_low : (x y z k : ℤ) → pos 0 <ℤ (pos 0 *ℤ x +ℤ pos 1 *ℤ y +ℤ pos 0 *ℤ z -ℤ k) → k <ℤ y
from_middle_low x y z k h = omega (arith, ints)

middle_high : (x y z k m : ℤ) → m ≡ pos 0 -ℤ k → y <ℤ k → pos 0 <ℤ (pos 0 *ℤ x +ℤ negsuc 0 *ℤ y +ℤ pos 0 *ℤ z -ℤ m)
middle_high x y z k m e h = omega (arith, ints)

from_middle_high : (x y z k m : ℤ) → m ≡ pos 0 -ℤ k → pos 0 <ℤ (pos 0 *ℤ x +ℤ negsuc 0 *ℤ y +ℤ pos 0 *ℤ z -ℤ m) → y <ℤ k
from_middle_high x y z k m e h = omega (arith, ints)

last_low : (x y z k : ℤ) → k <ℤ z → pos 0 <ℤ (pos 0 *ℤ x +ℤ pos 0 *ℤ y +ℤ pos 1 *ℤ z -ℤ k)
last_low x y z k h = omega (arith, ints)

from_last_low : (x y z k : ℤ) → pos 0 <ℤ (pos 0 *ℤ x +ℤ pos 0 *ℤ y +ℤ pos 1 *ℤ z -ℤ k) → k <ℤ z
from_last_low x y z k h = omega (arith, ints)

last_high : (x y z k m : ℤ) → m ≡ pos 0 -ℤ k → z <ℤ k → pos 0 <ℤ (pos 0 *ℤ x +ℤ pos 0 *ℤ y +ℤ negsuc 0 *ℤ z -ℤ m)
last_high x y z k m e h = omega (arith, ints)

from_last_high : (x y z k m : ℤ) → m ≡ pos 0 -ℤ k → pos 0 <ℤ (pos 0 *ℤ x +ℤ pos 0 *ℤ y +ℤ negsuc 0 *ℤ z -ℤ m) → z <ℤ k
from_last_high x y z k m e h = omega (arith, ints)

-- the six sides of a room from low to high, kept positive inside it
abbrev sides_between : ℤ → ℤ → List Plane
sides_between low high = low_x low ∷ (high_x low ∷ (low_y low ∷ (high_y low ∷ (low_z low ∷ (high_z low ∷ [])))))

turned_product : (low high w : ℤ) → low ≡ pos 0 -ℤ high → low *ℤ w ≡ pos 0 -ℤ high *ℤ w
turned_product low high w e = ap (λ n. n *ℤ w) e ∙ ring (high ∷ (w ∷ [])) ((con (pos 0) ⊖ var 0) ⊗ var 1) (con (pos 0) ⊖ var 0 ⊗ var 1) refl

record IsBetween (low high : ℤ) (p : Point) : Type 0 where
  pub x_low : (low *ℤ p.w) <ℤ p.x
  pub x_high : p.x <ℤ (high *ℤ p.w)
  pub y_low : (low *ℤ p.w) <ℤ p.y
  pub y_high : p.y <ℤ (high *ℤ p.w)
  pub z_low : (low *ℤ p.w) <ℤ p.z
  pub z_high : p.z <ℤ (high *ℤ p.w)

to_sides : (low high : ℤ) (p : Point) → low ≡ pos 0 -ℤ high → IsBetween low high p → Each (λ h. pos 0 <ℤ value h p) (sides_between low high)
to_sides low high p e i =
    let t = turned_product low high p.w e in (
      low_side p.x p.y p.z (low *ℤ p.w) i.x_low,
      (
        high_side p.x p.y p.z (high *ℤ p.w) (low *ℤ p.w) t i.x_high,
        (
          middle_low p.x p.y p.z (low *ℤ p.w) i.y_low,
          (
            middle_high p.x p.y p.z (high *ℤ p.w) (low *ℤ p.w) t i.y_high,
            (
              last_low p.x p.y p.z (low *ℤ p.w) i.z_low,
              (
                last_high p.x p.y p.z (high *ℤ p.w) (low *ℤ p.w) t i.z_high,
                tt,
              ),
            ),
          ),
        ),
      ),
    )

of_sides : (low high : ℤ) (p : Point) → low ≡ pos 0 -ℤ high → Each (λ h. pos 0 <ℤ value h p) (sides_between low high) → IsBetween low high p
of_sides low high p e s =
    let t = turned_product low high p.w e in
    record {
      x_low = from_low p.x p.y p.z (low *ℤ p.w) s.0;
      x_high = from_high p.x p.y p.z (high *ℤ p.w) (low *ℤ p.w) t s.1.0;
      y_low = from_middle_low p.x p.y p.z (low *ℤ p.w) s.1.1.0;
      y_high = from_middle_high p.x p.y p.z (high *ℤ p.w) (low *ℤ p.w) t s.1.1.1.0;
      z_low = from_last_low p.x p.y p.z (low *ℤ p.w) s.1.1.1.1.0;
      z_high = from_last_high p.x p.y p.z (high *ℤ p.w) (low *ℤ p.w) t s.1.1.1.1.1.0;
    }

-- ---- the enclosing cube
abbrev pub room : List Plane
room = sides_between (negsuc 1048576) (pos 1048577)

pub room_inside : (p : Point) → Each (λ h. pos 0 <ℤ value h p) room → IsInsideCube p
room_inside p s =
    let i = of_sides (negsuc 1048576) (pos 1048577) p refl s in
    record { x_low = i.x_low; x_high = i.x_high; y_low = i.y_low; y_high = i.y_high; z_low = i.z_low; z_high = i.z_high }

lower : (m n w x : ℤ) → n ≡ m -ℤ pos 1 → pos 0 <ℤ w → (m *ℤ w) ≤ℤ x → (n *ℤ w) <ℤ x
lower m n w x e h k = less (m *ℤ w) (n *ℤ w) w x (ap (λ v. v *ℤ w) e ∙ ring (m ∷ (w ∷ [])) ((var 0 ⊖ con (pos 1)) ⊗ var 1) (var 0 ⊗ var 1 ⊖ var 1) refl) h k
  where
    less : (a b w x : ℤ) → b ≡ a -ℤ w → pos 0 <ℤ w → a ≤ℤ x → b <ℤ x
    less a b w x e h k = omega (arith, ints)

higher : (m n w x : ℤ) → n ≡ m +ℤ pos 1 → pos 0 <ℤ w → x ≤ℤ (m *ℤ w) → x <ℤ (n *ℤ w)
higher m n w x e h k = more (m *ℤ w) (n *ℤ w) w x (ap (λ v. v *ℤ w) e ∙ ring (m ∷ (w ∷ [])) ((var 0 ⊕ con (pos 1)) ⊗ var 1) (var 0 ⊗ var 1 ⊕ var 1) refl) h k
  where
    more : (a b w x : ℤ) → b ≡ a +ℤ w → pos 0 <ℤ w → x ≤ℤ a → x <ℤ b
    more a b w x e h k = omega (arith, ints)

pub range_room : (p : Point) → IsPoint p → IsInRange p → Each (λ h. pos 0 <ℤ value h p) room
range_room p ip r = to_sides (negsuc 1048576) (pos 1048577) p refl (record {
  x_low = lower (negsuc 1048575) (negsuc 1048576) p.w p.x refl ip r.x_low;
  x_high = higher (pos 1048576) (pos 1048577) p.w p.x refl ip r.x_high;
  y_low = lower (negsuc 1048575) (negsuc 1048576) p.w p.y refl ip r.y_low;
  y_high = higher (pos 1048576) (pos 1048577) p.w p.y refl ip r.y_high;
  z_low = lower (negsuc 1048575) (negsuc 1048576) p.w p.z refl ip r.z_low;
  z_high = higher (pos 1048576) (pos 1048577) p.w p.z refl ip r.z_high;
})
