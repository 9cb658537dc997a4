-- Corners with the same numbers are one corner.
use Rattle.std.proofs.Common.{◌≡◌, ◌*◌, ◌≤◌, ◌^◌, Bool, true, false, ◌&&◌, List, ℤ, pos, ◌<ℤ◌, unsigned_abs, refl, subst, int_eq}
use Rattle.std.proofs.Props.{props}
use Rattle.std.specs.Bool.{Decides}
use Rattle.std.specs.List.{IsDistinct}
use mathlib.Core.HLevel.{is_prop→PathP}
use Rattle.std.proofs.lemmas.Bool.Decides.{Decides-int_eq}
use Rattle.std.proofs.lemmas.Map.Made.{AllPairs-from_IsDistinct}
use Rattle.plane_core.specs.Numbers.{AreCoprime}
use Rattle.plane_core.specs.declared.numbers.Corner.{Corner}
use Rattle.corner_book.specs.Corners.{AreDistinct}

pub same_corner : (c d : Corner) → c.x ≡ d.x → c.y ≡ d.y → c.z ≡ d.z → c.w ≡ d.w → c ≡ d
same_corner c d x y z w = λ i. record {
  x = x i;
  y = y i;
  z = z i;
  w = w i;
  x_small = is_prop→PathP (λ j. unsigned_abs (x j) ≤ 6 * 2 ^ 96) (λ j. hlevel props) c.x_small d.x_small i;
  y_small = is_prop→PathP (λ j. unsigned_abs (y j) ≤ 6 * 2 ^ 96) (λ j. hlevel props) c.y_small d.y_small i;
  z_small = is_prop→PathP (λ j. unsigned_abs (z j) ≤ 6 * 2 ^ 96) (λ j. hlevel props) c.z_small d.z_small i;
  w_small = is_prop→PathP (λ j. unsigned_abs (w j) ≤ 6 * 2 ^ 78) (λ j. hlevel props) c.w_small d.w_small i;
  positive = is_prop→PathP (λ j. pos 0 <ℤ w j) (λ j. hlevel props) c.positive d.positive i;
  coprime = is_prop→PathP (λ j. AreCoprime (x j) (y j) (z j) (w j)) (λ j. hlevel props) c.coprime d.coprime i;
}

-- ---- the test of equal numbers
abbrev pub corner_eq : Corner → Corner → Bool
corner_eq c d = int_eq c.x d.x && (int_eq c.y d.y && (int_eq c.z d.z && int_eq c.w d.w))

both : (a b : Bool) → (a && b) ≡ true → (a ≡ true) × (b ≡ true)
both true b e = (refl, e)
both false b e = cc

same_number : (x y : ℤ) → int_eq x y ≡ true → x ≡ y
same_number x y e = (Decides-int_eq x y).0 e

own_number : (x : ℤ) → int_eq x x ≡ true
own_number x = (Decides-int_eq x x).1 refl

pub same_from_eq : (c d : Corner) → corner_eq c d ≡ true → c ≡ d
same_from_eq c d e =
    let s = both _ _ e in
    let t = both _ _ s.1 in
    let u = both _ _ t.1 in
    same_corner c d (same_number c.x d.x s.0) (same_number c.y d.y t.0) (same_number c.z d.z u.0) (same_number c.w d.w u.1)

pub eq_itself : (c : Corner) → corner_eq c c ≡ true
eq_itself c = rw (own_number c.x, own_number c.y, own_number c.z, own_number c.w) refl

pub corner_eq-Decides : (c d : Corner) → Decides (corner_eq c d) (c ≡ d)
corner_eq-Decides c d = (same_from_eq c d, λ e. subst (λ x. corner_eq c x ≡ true) e (eq_itself c))

pub distinct_keys : (cs : List Corner) → IsDistinct corner_eq cs → AreDistinct cs
distinct_keys cs h = AllPairs-from_IsDistinct corner_eq-Decides cs h
