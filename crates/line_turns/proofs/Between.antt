-- Two points of a line, and a point between them that is on no plane of a list but those that hold the line.
use Rattle.std.proofs.Common.{◌≡◌, ◌≢◌, ◌⊎◌, inl, inr, ◌+◌, ◌≤◌, Bool, true, false, List, [], ◌∷◌, map, ℕ, ℤ, pos, neg_ℤ, ◌+ℤ◌, ◌-ℤ◌, ◌*ℤ◌, ◌<ℤ◌, unsigned_abs, refl, sym, ap, ap₂, ◌∙◌, subst, arith}
use Rattle.std.proofs.lemmas.Int.{ints}
use Rattle.spec_space.specs.declared.Point.{Point}
use Rattle.spec_space.specs.declared.Plane.{Plane}
use Rattle.spec_space.specs.declared.Vector.{Vector}
use Rattle.spec_space.specs.Points.{IsPoint, dot, value, way_between}
use Rattle.integer_laws.proofs.Ring.{var, neg, ◌⊕◌, ◌⊗◌, ◌⊖◌, ring}
use Rattle.integer_laws.proofs.Signs.{mul_positive}
use Rattle.integer_laws.proofs.Products.{zero_right}
use Rattle.spec_space.specs.Sums.{IsSamePoint, plus, times}
use Rattle.plane_core.specs.Views.{plane_of}
use Rattle.plane_core.specs.declared.numbers.Plane.{Plane as BookPlane}
use Rattle.integer_laws.proofs.Cancel.{sign_cases, positive_right}
use Rattle.convex_cycles.proofs.Values.{value_linear, value_scaled}
use Rattle.convex_cycles.proofs.Lists.{Each, EachPair, Member, each_member, each_from_members, each_weaker}
use Rattle.convex_cycles.proofs.Reaches.{reach, reach_positive, positive_number, outdone}
use Rattle.line_turns.proofs.Orders.{vector_some}
use Rattle.line_turns.proofs.Lines.{Holds}
use Rattle.line_turns.proofs.Near.{far, outdone_down}
use Rattle.line_turns.proofs.Places.{Parts, normal_of, IsFar}
use Rattle.line_turns.proofs.Bundles.{direction}
use Rattle.line_turns.proofs.Runs.{way_on, strictly_as}

-- ---- the direction of a line through two points
level_apart : (x y : ℤ) → x -ℤ y ≡ pos 0 → x ≡ y
level_apart x y e = omega (arith, ints)

-- two points that are different places have a way
pub way_some : (u v : Point) → (IsSamePoint u v → ⊥) → pos 0 <ℤ dot (way_between u v) (way_between u v)
way_some u v apart = vector_some (way_between u v) (λ x y z. apart (record {
  same_x = sym (level_apart (v.x *ℤ u.w) (u.x *ℤ v.w) x);
  same_y = sym (level_apart (v.y *ℤ u.w) (u.y *ℤ v.w) y);
  same_z = sym (level_apart (v.z *ℤ u.w) (u.z *ℤ v.w) z);
}))

-- planes that hold both points hold the line
pub holds_both : (h : Plane) (u v m : Point) → value h u ≡ pos 0 → value h v ≡ pos 0 → value h m ≡ pos 0 → Holds m (way_between u v) h
holds_both h u v m hu hv hm = (hm, way_on h u v hu hv)

-- ---- a point between
-- n times the first point, and the second once
abbrev pub between : ℕ → Point → Point → Point
between n u v = plus (times (pos n) u) v

pub between-value : (h : Plane) (n : ℕ) (u v : Point) → value h (between n u v) ≡ pos n *ℤ value h u +ℤ value h v
between-value h n u v = value_linear h (times (pos n) u) v ∙ ap (λ x. x +ℤ value h v) (value_scaled h (pos n) u)

pub between-IsPoint : (n : ℕ) (u v : Point) → 1 ≤ n → IsPoint u → IsPoint v → IsPoint (between n u v)
between-IsPoint n u v some hu hv = up (pos n *ℤ u.w) v.w (mul_positive (pos n) u.w (positive_number n some) hu) hv
  where
    up : (x y : ℤ) → pos 0 <ℤ x → pos 0 <ℤ y → pos 0 <ℤ (x +ℤ y)
    up x y h k = omega (arith, ints)

pub between_on : (h : Plane) (n : ℕ) (u v : Point) → value h u ≡ pos 0 → value h v ≡ pos 0 → value h (between n u v) ≡ pos 0
between_on h n u v hu hv = between-value h n u v ∙ gone (pos n *ℤ value h u) (value h v) (zero_right (pos n) (value h u) hu) hv
  where
    gone : (x y : ℤ) → x ≡ pos 0 → y ≡ pos 0 → x +ℤ y ≡ pos 0
    gone x y p q = omega (arith, ints)

-- a plane that holds it, for a large n, holds both points
pub between_off : (h : Plane) (n : ℕ) (u v : Point) → unsigned_abs (value h v) + 1 ≤ n → value h (between n u v) ≡ pos 0 → (value h u ≡ pos 0) × (value h v ≡ pos 0)
between_off h n u v large e = elim (sign_cases (value h u)) [
  | inl low ↦ absurd (level_down (pos n *ℤ value h u +ℤ value h v) (sym (between-value h n u v) ∙ e) (outdone_down n (value h u) (value h v) low large))
  | inr (inl none) ↦ (none, rest (pos n *ℤ value h u) (value h v) (sym (between-value h n u v) ∙ e) (zero_right (pos n) (value h u) none))
  | inr (inr high) ↦ absurd (level_up (pos n *ℤ value h u +ℤ value h v) (sym (between-value h n u v) ∙ e) (outdone n (value h u) (value h v) high large))
]
  where
    level_down : (x : ℤ) → x ≡ pos 0 → x <ℤ pos 0 → ⊥
    level_down x e h = omega (arith, ints)

    level_up : (x : ℤ) → x ≡ pos 0 → pos 0 <ℤ x → ⊥
    level_up x e h = omega (arith, ints)

    rest : (x y : ℤ) → x +ℤ y ≡ pos 0 → x ≡ pos 0 → y ≡ pos 0
    rest x y e z = omega (arith, ints)

-- a number large enough for the planes of a list
abbrev pub beyond : Point → List Plane → ℕ
beyond v hs = reach (λ h. value h v) hs

pub between_each : (hs : List Plane) (n : ℕ) (u v : Point) → beyond v hs ≤ n → Each (λ h. value h (between n u v) ≡ pos 0 → (value h u ≡ pos 0) × (value h v ≡ pos 0)) hs
between_each [] n u v large = tt
between_each (h ∷ hs) n u v large =
    let some = reach_positive (λ (h : Plane). value h v) hs in
    let first : unsigned_abs (value h v) + 1 ≤ n = omega arith in
    let rest : beyond v hs ≤ n = omega arith in
    (between_off h n u v first, between_each hs n u v rest)

-- ---- the order of points along a line
-- b comes after a along t
abbrev pub IsAfter : Vector → Point → Point → Type 0
IsAfter t a b = pos 0 <ℤ dot (way_between a b) t

first_way : (n : ℕ) (u v : Point) (t : Vector) → dot (way_between u (between n u v)) t ≡ dot (way_between u v) t
first_way n u v t = ring (pos n ∷ (u.x ∷ (u.y ∷ (u.z ∷ (u.w ∷ (v.x ∷ (v.y ∷ (v.z ∷ (v.w ∷ (t.x ∷ (t.y ∷ (t.z ∷ []))))))))))))
    (((var 0 ⊗ var 1 ⊕ var 5) ⊗ var 4 ⊖ var 1 ⊗ (var 0 ⊗ var 4 ⊕ var 8)) ⊗ var 9 ⊕ ((var 0 ⊗ var 2 ⊕ var 6) ⊗ var 4 ⊖ var 2 ⊗ (var 0 ⊗ var 4 ⊕ var 8)) ⊗ var 10 ⊕ ((var 0 ⊗ var 3 ⊕ var 7) ⊗ var 4 ⊖ var 3 ⊗ (var 0 ⊗ var 4 ⊕ var 8)) ⊗ var 11)
    ((var 5 ⊗ var 4 ⊖ var 1 ⊗ var 8) ⊗ var 9 ⊕ (var 6 ⊗ var 4 ⊖ var 2 ⊗ var 8) ⊗ var 10 ⊕ (var 7 ⊗ var 4 ⊖ var 3 ⊗ var 8) ⊗ var 11) refl

second_way : (n : ℕ) (u v : Point) (t : Vector) → dot (way_between (between n u v) v) t ≡ pos n *ℤ dot (way_between u v) t
second_way n u v t = ring (pos n ∷ (u.x ∷ (u.y ∷ (u.z ∷ (u.w ∷ (v.x ∷ (v.y ∷ (v.z ∷ (v.w ∷ (t.x ∷ (t.y ∷ (t.z ∷ []))))))))))))
    ((var 5 ⊗ (var 0 ⊗ var 4 ⊕ var 8) ⊖ (var 0 ⊗ var 1 ⊕ var 5) ⊗ var 8) ⊗ var 9 ⊕ (var 6 ⊗ (var 0 ⊗ var 4 ⊕ var 8) ⊖ (var 0 ⊗ var 2 ⊕ var 6) ⊗ var 8) ⊗ var 10 ⊕ (var 7 ⊗ (var 0 ⊗ var 4 ⊕ var 8) ⊖ (var 0 ⊗ var 3 ⊕ var 7) ⊗ var 8) ⊗ var 11)
    (var 0 ⊗ ((var 5 ⊗ var 4 ⊖ var 1 ⊗ var 8) ⊗ var 9 ⊕ (var 6 ⊗ var 4 ⊖ var 2 ⊗ var 8) ⊗ var 10 ⊕ (var 7 ⊗ var 4 ⊖ var 3 ⊗ var 8) ⊗ var 11)) refl

-- the point between comes after the first and before the second
pub between_after : (n : ℕ) (u v : Point) (t : Vector) → IsAfter t u v → IsAfter t u (between n u v)
between_after n u v t h = subst (λ x. pos 0 <ℤ x) (sym (first_way n u v t)) h

pub between_before : (n : ℕ) (u v : Point) (t : Vector) → 1 ≤ n → IsAfter t u v → IsAfter t (between n u v) v
between_before n u v t some h = subst (λ x. pos 0 <ℤ x) (sym (second_way n u v t)) (mul_positive (pos n) (dot (way_between u v) t) (positive_number n some) h)

-- the order does not depend on how points are spelt
moved : (a m c : Point) (t : Vector) → IsSamePoint m c → m.w *ℤ dot (way_between a c) t ≡ c.w *ℤ dot (way_between a m) t
moved a m c t s =
    outer m.w a.w c.x c.y c.z c.w a.x a.y a.z t.x t.y t.z
    ∙ ap₂ (λ u v. u +ℤ v) (ap₂ (λ u v. u +ℤ v) (ap (λ k. (k *ℤ a.w -ℤ a.x *ℤ (c.w *ℤ m.w)) *ℤ t.x) (sym s.same_x)) (ap (λ k. (k *ℤ a.w -ℤ a.y *ℤ (c.w *ℤ m.w)) *ℤ t.y) (sym s.same_y))) (ap (λ k. (k *ℤ a.w -ℤ a.z *ℤ (c.w *ℤ m.w)) *ℤ t.z) (sym s.same_z))
    ∙ inner c.w a.w m.x m.y m.z m.w a.x a.y a.z t.x t.y t.z
  where
    outer : (k w x y z v a b c p q r : ℤ) → k *ℤ ((x *ℤ w -ℤ a *ℤ v) *ℤ p +ℤ (y *ℤ w -ℤ b *ℤ v) *ℤ q +ℤ (z *ℤ w -ℤ c *ℤ v) *ℤ r) ≡ ((x *ℤ k) *ℤ w -ℤ a *ℤ (v *ℤ k)) *ℤ p +ℤ ((y *ℤ k) *ℤ w -ℤ b *ℤ (v *ℤ k)) *ℤ q +ℤ ((z *ℤ k) *ℤ w -ℤ c *ℤ (v *ℤ k)) *ℤ r
    outer k w x y z v a b c p q r = ring (k ∷ (w ∷ (x ∷ (y ∷ (z ∷ (v ∷ (a ∷ (b ∷ (c ∷ (p ∷ (q ∷ (r ∷ []))))))))))))
        (var 0 ⊗ ((var 2 ⊗ var 1 ⊖ var 6 ⊗ var 5) ⊗ var 9 ⊕ (var 3 ⊗ var 1 ⊖ var 7 ⊗ var 5) ⊗ var 10 ⊕ (var 4 ⊗ var 1 ⊖ var 8 ⊗ var 5) ⊗ var 11))
        (((var 2 ⊗ var 0) ⊗ var 1 ⊖ var 6 ⊗ (var 5 ⊗ var 0)) ⊗ var 9 ⊕ ((var 3 ⊗ var 0) ⊗ var 1 ⊖ var 7 ⊗ (var 5 ⊗ var 0)) ⊗ var 10 ⊕ ((var 4 ⊗ var 0) ⊗ var 1 ⊖ var 8 ⊗ (var 5 ⊗ var 0)) ⊗ var 11) refl

    inner : (k w x y z v a b c p q r : ℤ) → ((x *ℤ k) *ℤ w -ℤ a *ℤ (k *ℤ v)) *ℤ p +ℤ ((y *ℤ k) *ℤ w -ℤ b *ℤ (k *ℤ v)) *ℤ q +ℤ ((z *ℤ k) *ℤ w -ℤ c *ℤ (k *ℤ v)) *ℤ r ≡ k *ℤ ((x *ℤ w -ℤ a *ℤ v) *ℤ p +ℤ (y *ℤ w -ℤ b *ℤ v) *ℤ q +ℤ (z *ℤ w -ℤ c *ℤ v) *ℤ r)
    inner k w x y z v a b c p q r = ring (k ∷ (w ∷ (x ∷ (y ∷ (z ∷ (v ∷ (a ∷ (b ∷ (c ∷ (p ∷ (q ∷ (r ∷ []))))))))))))
        (((var 2 ⊗ var 0) ⊗ var 1 ⊖ var 6 ⊗ (var 0 ⊗ var 5)) ⊗ var 9 ⊕ ((var 3 ⊗ var 0) ⊗ var 1 ⊖ var 7 ⊗ (var 0 ⊗ var 5)) ⊗ var 10 ⊕ ((var 4 ⊗ var 0) ⊗ var 1 ⊖ var 8 ⊗ (var 0 ⊗ var 5)) ⊗ var 11)
        (var 0 ⊗ ((var 2 ⊗ var 1 ⊖ var 6 ⊗ var 5) ⊗ var 9 ⊕ (var 3 ⊗ var 1 ⊖ var 7 ⊗ var 5) ⊗ var 10 ⊕ (var 4 ⊗ var 1 ⊖ var 8 ⊗ var 5) ⊗ var 11)) refl

pub after_same : (t : Vector) (a m c : Point) → IsPoint m → IsPoint c → IsSamePoint m c → IsAfter t a m → IsAfter t a c
after_same t a m c hm hc s h = positive_right m.w (dot (way_between a c) t) hm (subst (λ x. pos 0 <ℤ x) (sym (moved a m c t s)) (mul_positive c.w (dot (way_between a m) t) hc h))

pub way_turned : (a b : Point) (t : Vector) → dot (way_between b a) t ≡ neg_ℤ (dot (way_between a b) t)
way_turned a b t = ring (a.x ∷ (a.y ∷ (a.z ∷ (a.w ∷ (b.x ∷ (b.y ∷ (b.z ∷ (b.w ∷ (t.x ∷ (t.y ∷ (t.z ∷ [])))))))))))
    ((var 0 ⊗ var 7 ⊖ var 4 ⊗ var 3) ⊗ var 8 ⊕ (var 1 ⊗ var 7 ⊖ var 5 ⊗ var 3) ⊗ var 9 ⊕ (var 2 ⊗ var 7 ⊖ var 6 ⊗ var 3) ⊗ var 10)
    (neg ((var 4 ⊗ var 3 ⊖ var 0 ⊗ var 7) ⊗ var 8 ⊕ (var 5 ⊗ var 3 ⊖ var 1 ⊗ var 7) ⊗ var 9 ⊕ (var 6 ⊗ var 3 ⊖ var 2 ⊗ var 7) ⊗ var 10)) refl

pub before_same : (t : Vector) (m c b : Point) → IsPoint m → IsPoint c → IsSamePoint m c → IsAfter t m b → IsAfter t c b
before_same t m c b hm hc s h = back (dot (way_between b c) t) (dot (way_between c b) t) (way_turned b c t)
    (strictly_as false c.w m.w (dot (way_between b m) t) (dot (way_between b c) t) hc hm (sym (moved b m c t s)) (low (dot (way_between m b) t) (dot (way_between b m) t) (way_turned m b t) h))
  where
    low : (x y : ℤ) → y ≡ neg_ℤ x → pos 0 <ℤ x → y <ℤ pos 0
    low x y e h = omega (arith, ints)

    back : (x y : ℤ) → y ≡ neg_ℤ x → x <ℤ pos 0 → pos 0 <ℤ y
    back x y e h = omega (arith, ints)

-- ---- large enough numbers
-- the sum of a number over a list
abbrev pub most : {X : Type 0} → (X → ℕ) → List X → ℕ
most f [] = 0
most f (x ∷ xs) = f x + most f xs

pub most_each : {X : Type 0} (f : X → ℕ) (xs : List X) (k : ℕ) → most f xs ≤ k → Each (λ x. f x ≤ k) xs
most_each f [] k h = tt
most_each f (x ∷ xs) k h =
    let first : f x ≤ k = omega arith in
    let rest : most f xs ≤ k = omega arith in
    (first, most_each f xs k rest)

-- the half-planes of a plane, and the planes of a list
abbrev pub round_far : Vector → List Plane → BookPlane → ℕ
round_far t hs x = far (direction true (normal_of x) t) hs + far (direction false (normal_of x) t) hs

pub round_far_each : (t : Vector) (hs : List Plane) (x : BookPlane) (k : ℕ) → round_far t hs x ≤ k → (s : Bool) → far (direction s (normal_of x) t) hs ≤ k
round_far_each t hs x k h true = omega arith
round_far_each t hs x k h false = omega arith

-- k is large enough for the places at all half-planes
pub all_far : (m : Point) (t : Vector) (k : ℕ) (through others : List BookPlane) → most (round_far t (map plane_of others)) through ≤ k → Each (IsFar m t k others) through
all_far m t k through others h = each_weaker (λ x. round_far t (map plane_of others) x ≤ k) (IsFar m t k others) (λ x b s. round_far_each t (map plane_of others) x k b s) through (most_each (round_far t (map plane_of others)) through k h)

-- ---- the planes of a list that hold a line
-- where each plane that holds m holds the line, the list has its parts
pub parts : (m : Point) (t : Vector) (hs : List BookPlane) → EachPair (λ h k. h ≢ k) hs → Each (λ h. value (plane_of h) m ≡ pos 0 → dot (normal_of h) t ≡ pos 0) hs → Parts m t hs
parts m t [] different holds = record { through = []; others = []; holds = tt; off = tt; different = tt; either = λ h n. absurd n; through_in = λ h n. n; others_in = λ h n. n }
parts m t (h ∷ hs) different holds =
    let r = parts m t hs different.1 holds.1 in
    elim (zero_or_not (value (plane_of h) m)) [
      | inl on ↦ record {
        through = h ∷ r.through;
        others = r.others;
        holds = ((on, holds.0 on), r.holds);
        off = r.off;
        different = (each_from_members (λ k. h ≢ k) r.through (λ k n. each_member (λ k. h ≢ k) k hs (r.through_in k n) different.0), r.different);
        either = λ k n. with_through k r.through r.others n (r.either k);
        through_in = λ k n. more k r.through n (r.through_in k);
        others_in = λ k n. inr (r.others_in k n);
      }
      | inr away ↦ record {
        through = r.through;
        others = h ∷ r.others;
        holds = r.holds;
        off = (away, r.off);
        different = r.different;
        either = λ k n. with_others k r.through r.others n (r.either k);
        through_in = λ k n. inr (r.through_in k n);
        others_in = λ k n. more k r.others n (r.others_in k);
      }
    ]
  where
    zero_or_not : (x : ℤ) → (x ≡ pos 0) ⊎ (x ≢ pos 0)
    zero_or_not x = elim (sign_cases x) [
      | inl low ↦ inr (λ e. level_down x e low)
      | inr (inl none) ↦ inl none
      | inr (inr high) ↦ inr (λ e. level_up x e high)
    ]
      where
        level_down : (x : ℤ) → x ≡ pos 0 → x <ℤ pos 0 → ⊥
        level_down x e h = omega (arith, ints)

        level_up : (x : ℤ) → x ≡ pos 0 → pos 0 <ℤ x → ⊥
        level_up x e h = omega (arith, ints)

    with_through : (k : BookPlane) (ts os : List BookPlane) → Member k (h ∷ hs) → (Member k hs → Member k ts ⊎ Member k os) → Member k (h ∷ ts) ⊎ Member k os
    with_through k ts os (inl e) rest = inl (inl e)
    with_through k ts os (inr n) rest = elim (rest n) [ inl a ↦ inl (inr a) | inr b ↦ inr b ]

    with_others : (k : BookPlane) (ts os : List BookPlane) → Member k (h ∷ hs) → (Member k hs → Member k ts ⊎ Member k os) → Member k ts ⊎ Member k (h ∷ os)
    with_others k ts os (inl e) rest = inr (inl e)
    with_others k ts os (inr n) rest = elim (rest n) [ inl a ↦ inl a | inr b ↦ inr (inr b) ]

    more : (k : BookPlane) (ts : List BookPlane) → Member k (h ∷ ts) → (Member k ts → Member k hs) → Member k (h ∷ hs)
    more k ts (inl e) rest = inl e
    more k ts (inr n) rest = inr (rest n)
