-- The way along an edge of a cycle: the cross product of the normals of its plane and of its edge plane, up to a positive
-- factor.
use Rattle.std.proofs.Common.{◌≡◌, ◌⊎◌, inl, inr, [], ◌∷◌, ℤ, pos, neg_ℤ, ◌+ℤ◌, ◌-ℤ◌, ◌*ℤ◌, ◌<ℤ◌, refl, sym, ap, ◌∙◌, subst, arith}
use Rattle.std.proofs.lemmas.Int.{ints}
use Rattle.integer_laws.proofs.Ring.{var, con, neg, ◌⊕◌, ◌⊗◌, ◌⊖◌, ring}
use Rattle.integer_laws.proofs.Signs.{mul_positive, square_positive}
use Rattle.spec_space.specs.declared.Point.{Point}
use Rattle.spec_space.specs.declared.Plane.{Plane}
use Rattle.spec_space.specs.declared.Vector.{Vector}
use Rattle.spec_space.specs.Points.{IsPoint, value, normal, cross, way_between, opposite}
use Rattle.spec_page.specs.Faces.{GoesAlong}
use Rattle.integer_laws.proofs.Cancel.{sign_cases, positive_right}
use Rattle.convex_cycles.specs.Cycles.{turn}
use Rattle.convex_cycles.proofs.Quotes.{turne}
use Rattle.convex_cycles.proofs.Turns.{change, change_to, in_proportion}

-- ---- a way in proportion to a direction goes along it
zero_or : (x : ℤ) → (x ≡ pos 0) ⊎ (x ≡ pos 0 → ⊥)
zero_or x = elim (sign_cases x) [
  | inl low ↦ inr (λ e. low_zero x low e)
  | inr (inl same) ↦ inl same
  | inr (inr high) ↦ inr (λ e. high_zero x high e)
]
  where
    low_zero : (x : ℤ) → x <ℤ pos 0 → x ≡ pos 0 → ⊥
    low_zero x h e = omega (arith, ints)

    high_zero : (x : ℤ) → pos 0 <ℤ x → x ≡ pos 0 → ⊥
    high_zero x h e = omega (arith, ints)

-- a number that is not 0, and one in proportion to it
same_sign : (a b d w : ℤ) → pos 0 <ℤ a → pos 0 <ℤ b → a *ℤ w ≡ b *ℤ d → (d ≡ pos 0 → ⊥) → pos 0 <ℤ (d *ℤ w)
same_sign a b d w ha hb e some = positive_right a (d *ℤ w) ha (subst (λ x. pos 0 <ℤ x) (sym product) (mul_positive b (d *ℤ d) hb (square_positive d some)))
  where
    product : a *ℤ (d *ℤ w) ≡ b *ℤ (d *ℤ d)
    product = ring (a ∷ (d ∷ (w ∷ []))) (var 0 ⊗ (var 1 ⊗ var 2)) (var 1 ⊗ (var 0 ⊗ var 2)) refl ∙ ap (λ x. d *ℤ x) e ∙ ring (b ∷ (d ∷ [])) (var 1 ⊗ (var 0 ⊗ var 1)) (var 0 ⊗ (var 1 ⊗ var 1)) refl

-- the way is in proportion to the direction, which is not 0
record IsProportional (d w : Vector) (a b : ℤ) : Type 0 where
  pub first : pos 0 <ℤ a
  pub second : pos 0 <ℤ b
  pub along_x : a *ℤ w.x ≡ b *ℤ d.x
  pub along_y : a *ℤ w.y ≡ b *ℤ d.y
  pub along_z : a *ℤ w.z ≡ b *ℤ d.z
  pub some : d.x ≡ pos 0 → d.y ≡ pos 0 → d.z ≡ pos 0 → ⊥

goes : (d w : Vector) (a b : ℤ) → IsProportional d w a b → GoesAlong d w
goes d w a b p = elim (zero_or d.x) [
  | inr x ↦ inl (same_sign a b d.x w.x p.first p.second p.along_x x)
  | inl x ↦ inr (
    x,
    elim (zero_or d.y) [
      | inr y ↦ inl (same_sign a b d.y w.y p.first p.second p.along_y y)
      | inl y ↦ inr (y, same_sign a b d.z w.z p.first p.second p.along_z (p.some x y))
    ],
  )
]

-- ---- along an edge
abbrev x_unit : Plane
x_unit = record { a = pos 1; b = pos 0; c = pos 0; d = pos 0 }

abbrev y_unit : Plane
y_unit = record { a = pos 0; b = pos 1; c = pos 0; d = pos 0 }

abbrev z_unit : Plane
z_unit = record { a = pos 0; b = pos 0; c = pos 1; d = pos 0 }

-- the edge plane m, the outer side of an edge, goes through the edge from u to v; there the next edge begins
pub record IsRun (s m : Plane) (u v : Point) : Type 0 where
  pub side : Plane
  pub next : Plane
  pub outer : m ≡ opposite side
  pub first_point : IsPoint u
  pub second_point : IsPoint v
  pub first_on : value s u ≡ pos 0
  pub second_on : value s v ≡ pos 0
  pub first_side : value side u ≡ pos 0
  pub second_side : value side v ≡ pos 0
  pub second_next : value next v ≡ pos 0
  pub inside_next : pos 0 <ℤ value next u
  pub left : pos 0 <ℤ turn s side next

x_way : (u v : Point) → change x_unit u v ≡ (way_between u v).x
x_way u v = put (first v.x v.y v.z v.w) (first u.x u.y u.z u.w)
  where
    first : (x y z w : ℤ) → pos 1 *ℤ x +ℤ pos 0 *ℤ y +ℤ pos 0 *ℤ z -ℤ pos 0 *ℤ w ≡ x
    first x y z w = omega (arith, ints)

    put : {x y : ℤ} → x ≡ v.x → y ≡ u.x → x *ℤ u.w -ℤ y *ℤ v.w ≡ v.x *ℤ u.w -ℤ u.x *ℤ v.w
    put {x} {y} e f = rw (e, f) refl

y_way : (u v : Point) → change y_unit u v ≡ (way_between u v).y
y_way u v = put (first v.x v.y v.z v.w) (first u.x u.y u.z u.w)
  where
    first : (x y z w : ℤ) → pos 0 *ℤ x +ℤ pos 1 *ℤ y +ℤ pos 0 *ℤ z -ℤ pos 0 *ℤ w ≡ y
    first x y z w = omega (arith, ints)

    put : {x y : ℤ} → x ≡ v.y → y ≡ u.y → x *ℤ u.w -ℤ y *ℤ v.w ≡ v.y *ℤ u.w -ℤ u.y *ℤ v.w
    put {x} {y} e f = rw (e, f) refl

z_way : (u v : Point) → change z_unit u v ≡ (way_between u v).z
z_way u v = put (first v.x v.y v.z v.w) (first u.x u.y u.z u.w)
  where
    first : (x y z w : ℤ) → pos 0 *ℤ x +ℤ pos 0 *ℤ y +ℤ pos 1 *ℤ z -ℤ pos 0 *ℤ w ≡ z
    first x y z w = omega (arith, ints)

    put : {x y : ℤ} → x ≡ v.z → y ≡ u.z → x *ℤ u.w -ℤ y *ℤ v.w ≡ v.z *ℤ u.w -ℤ u.z *ℤ v.w
    put {x} {y} e f = rw (e, f) refl

abbrev direction : Plane → Plane → Vector
direction s e = cross (normal s) (normal (opposite e))

x_turn : (s e : Plane) → turn s e x_unit ≡ neg_ℤ (direction s e).x
x_turn s e = ring (s.a ∷ (s.b ∷ (s.c ∷ (e.a ∷ (e.b ∷ (e.c ∷ []))))))
    (turne (var 0) (var 1) (var 2) (var 3) (var 4) (var 5) (con (pos 1)) (con (pos 0)) (con (pos 0)))
    (neg (var 1 ⊗ neg (var 5) ⊖ var 2 ⊗ neg (var 4))) refl

y_turn : (s e : Plane) → turn s e y_unit ≡ neg_ℤ (direction s e).y
y_turn s e = ring (s.a ∷ (s.b ∷ (s.c ∷ (e.a ∷ (e.b ∷ (e.c ∷ []))))))
    (turne (var 0) (var 1) (var 2) (var 3) (var 4) (var 5) (con (pos 0)) (con (pos 1)) (con (pos 0)))
    (neg (var 2 ⊗ neg (var 3) ⊖ var 0 ⊗ neg (var 5))) refl

z_turn : (s e : Plane) → turn s e z_unit ≡ neg_ℤ (direction s e).z
z_turn s e = ring (s.a ∷ (s.b ∷ (s.c ∷ (e.a ∷ (e.b ∷ (e.c ∷ []))))))
    (turne (var 0) (var 1) (var 2) (var 3) (var 4) (var 5) (con (pos 0)) (con (pos 0)) (con (pos 1)))
    (neg (var 0 ⊗ neg (var 4) ⊖ var 1 ⊗ neg (var 3))) refl

-- the turn to the next edge by the direction
whole_turn : (s e n : Plane) → turn s e n ≡ neg_ℤ (n.a *ℤ (direction s e).x +ℤ n.b *ℤ (direction s e).y +ℤ n.c *ℤ (direction s e).z)
whole_turn s e n = ring (s.a ∷ (s.b ∷ (s.c ∷ (e.a ∷ (e.b ∷ (e.c ∷ (n.a ∷ (n.b ∷ (n.c ∷ [])))))))))
    (turne (var 0) (var 1) (var 2) (var 3) (var 4) (var 5) (var 6) (var 7) (var 8))
    (neg (var 6 ⊗ (var 1 ⊗ neg (var 5) ⊖ var 2 ⊗ neg (var 4)) ⊕ var 7 ⊗ (var 2 ⊗ neg (var 3) ⊖ var 0 ⊗ neg (var 5)) ⊕ var 8 ⊗ (var 0 ⊗ neg (var 4) ⊖ var 1 ⊗ neg (var 3)))) refl

both_negative : (t d c b : ℤ) → t ≡ neg_ℤ d → c ≡ neg_ℤ b → t *ℤ c ≡ b *ℤ d
both_negative t d c b e f = rw (e, f) (ring (d ∷ (b ∷ [])) (neg (var 0) ⊗ neg (var 1)) (var 1 ⊗ var 0) refl)

no_turn : (t n m k x y z : ℤ) → pos 0 <ℤ t → t ≡ neg_ℤ (n *ℤ x +ℤ m *ℤ y +ℤ k *ℤ z) → x ≡ pos 0 → y ≡ pos 0 → z ≡ pos 0 → ⊥
no_turn t n m k x y z h e ex ey ez = none t n m k h (rw (ex, ey, ez) at e)
  where
    none : (t n m k : ℤ) → pos 0 <ℤ t → t ≡ neg_ℤ (n *ℤ pos 0 +ℤ m *ℤ pos 0 +ℤ k *ℤ pos 0) → ⊥
    none t n m k h e = omega (arith, ints)

module _ (s m : Plane) (u v : Point) (run : IsRun s m u v) where
  abbrev reach : ℤ
  reach = value run.next u *ℤ v.w

  falls : change run.next u v ≡ neg_ℤ reach
  falls = change_to run.next u v run.second_next

  in_step : (k : Plane) (d w : ℤ) → change k u v ≡ w → turn s run.side k ≡ neg_ℤ d → turn s run.side run.next *ℤ w ≡ reach *ℤ d
  in_step k d w e f =
      ap (λ x. turn s run.side run.next *ℤ x) (sym e)
      ∙ in_proportion s run.side run.next k u v run.first_on run.second_on run.first_side run.second_side
      ∙ both_negative (turn s run.side k) d (change run.next u v) reach f falls

  proportional : IsProportional (direction s run.side) (way_between u v) (turn s run.side run.next) reach
  proportional = record {
    first = run.left;
    second = mul_positive (value run.next u) v.w run.inside_next run.second_point;
    along_x = in_step x_unit (direction s run.side).x (way_between u v).x (x_way u v) (x_turn s run.side);
    along_y = in_step y_unit (direction s run.side).y (way_between u v).y (y_way u v) (y_turn s run.side);
    along_z = in_step z_unit (direction s run.side).z (way_between u v).z (z_way u v) (z_turn s run.side);
    some = no_turn (turn s run.side run.next) run.next.a run.next.b run.next.c (direction s run.side).x (direction s run.side).y (direction s run.side).z run.left (whole_turn s run.side run.next);
  }

  pub along_front : GoesAlong (cross (normal s) (normal m)) (way_between u v)
  along_front = subst (λ k. GoesAlong (cross (normal s) (normal k)) (way_between u v)) (sym run.outer)
      (goes (direction s run.side) (way_between u v) (turn s run.side run.next) reach proportional)
