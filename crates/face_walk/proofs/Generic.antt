-- In a part of a plane that has sides alone as its bounds, some point lies on no other plane of a tree.
use Rattle.std.proofs.Common.{◌≡◌, ◌≢◌, ◌⊎◌, inl, inr, ◌<◌, ◌≤◌, ℕ, length, Bool, true, false, List, [], ◌∷◌, Some, ℤ, pos, neg_ℤ, ◌+ℤ◌, ◌-ℤ◌, ◌*ℤ◌, ◌<ℤ◌, refl, sym, ap, subst, ◌∙◌, arith, true≢false}
use Rattle.std.specs.Prelude.{nat_eq}
use Rattle.std.proofs.lemmas.Int.{ints}
use Rattle.std.proofs.lemmas.Bool.{eqb-true, eq-eqb}
use Rattle.spec_space.specs.declared.Point.{Point}
use Rattle.spec_space.specs.declared.Plane.{Plane}
use Rattle.spec_space.specs.declared.Vector.{Vector}
use Rattle.spec_space.specs.Points.{IsPoint, value, normal, dot, cross, opposite}
use Rattle.plane_core.specs.declared.numbers.Plane.{Plane as BookPlane}
use Rattle.plane_core.specs.declared.book.PlaneId.{PlaneId}
use Rattle.plane_core.specs.Books.{AreDistinct}
use Rattle.plane_core.specs.Views.{plane_of}
use Rattle.plane_core.proofs.Laws.{same_from_multiples, one_number}
use Rattle.integer_laws.proofs.Ring.{Expr, var, con, neg, ◌⊕◌, ◌⊗◌, ◌⊖◌, ring}
use Rattle.integer_laws.proofs.Signs.{mul_positive, square_positive}
use Rattle.integer_laws.proofs.Products.{zero_left, zero_right, cancel_factor}
use Rattle.integer_laws.proofs.Cancel.{sign_cases}
use Rattle.convex_cycles.proofs.Lists.{Each}
use Rattle.convex_cycles.proofs.Crossings.{In}
use Rattle.convex_cycles.proofs.Hull.{opposite_front, value-opposite}
use Rattle.convex_cycles.proofs.Reaches.{reach, reach_positive, positive_number, outdone}
use Rattle.poly_frag.specs.Frags.{numbered, plane_at}
use Rattle.plane_cells.proofs.Slices.{given_plane}
use Rattle.tree_pool.specs.Trees.{Tree, leaf, node, IsPlaneOf}
use Rattle.face_walk.specs.Faces.{IsOfBook}
use Rattle.face_walk.proofs.Neighbours.{normal_some, square_nonneg, first_positive, second_positive, third_positive}

-- ---- along the plane h, across the plane k
abbrev along : Plane → Plane → Vector
along h k = record {
  x = h.a *ℤ dot (normal h) (normal k) -ℤ k.a *ℤ dot (normal h) (normal h);
  y = h.b *ℤ dot (normal h) (normal k) -ℤ k.b *ℤ dot (normal h) (normal h);
  z = h.c *ℤ dot (normal h) (normal k) -ℤ k.c *ℤ dot (normal h) (normal h);
}

abbrev stepped : Vector → ℤ → Point → Point
stepped v n q = record { x = n *ℤ q.x +ℤ v.x; y = n *ℤ q.y +ℤ v.y; z = n *ℤ q.z +ℤ v.z; w = n *ℤ q.w }

stepped-value : (f : Plane) (v : Vector) (n : ℤ) (q : Point) → value f (stepped v n q) ≡ n *ℤ value f q +ℤ dot (normal f) v
stepped-value f v n q = ring (n ∷ (f.a ∷ (f.b ∷ (f.c ∷ (f.d ∷ (v.x ∷ (v.y ∷ (v.z ∷ (q.x ∷ (q.y ∷ (q.z ∷ (q.w ∷ []))))))))))))
    (var 1 ⊗ (var 0 ⊗ var 8 ⊕ var 5) ⊕ var 2 ⊗ (var 0 ⊗ var 9 ⊕ var 6) ⊕ var 3 ⊗ (var 0 ⊗ var 10 ⊕ var 7) ⊖ var 4 ⊗ (var 0 ⊗ var 11))
    (var 0 ⊗ (var 1 ⊗ var 8 ⊕ var 2 ⊗ var 9 ⊕ var 3 ⊗ var 10 ⊖ var 4 ⊗ var 11) ⊕ (var 1 ⊗ var 5 ⊕ var 2 ⊗ var 6 ⊕ var 3 ⊗ var 7)) refl

stepped_within : (v : Vector) (n : ℕ) (q : Point) (gs : List Plane) → reach (λ g. dot (normal g) v) gs ≤ n → Each (In q) gs → Each (In (stepped v (pos n) q)) gs
stepped_within v n q [] r w = tt
stepped_within v n q (g ∷ gs) r w =
    let rest = reach_positive (λ g. dot (normal g) v) gs in
    (subst (λ x. pos 0 <ℤ x) (sym (stepped-value g v (pos n) q)) (outdone n (value g q) (dot (normal g) v) w.0 (omega arith)), stepped_within v n q gs (omega arith) w.1)

abbrev numbers : Plane → Plane → List ℤ
numbers h k = h.a ∷ (h.b ∷ (h.c ∷ (k.a ∷ (k.b ∷ (k.c ∷ [])))))

-- the two products of normals
abbrev nn : Expr
nn = var 0 ⊗ var 0 ⊕ var 1 ⊗ var 1 ⊕ var 2 ⊗ var 2

abbrev nm : Expr
nm = var 0 ⊗ var 3 ⊕ var 1 ⊗ var 4 ⊕ var 2 ⊗ var 5

along_own : (h k : Plane) → dot (normal h) (along h k) ≡ pos 0
along_own h k = ring (numbers h k)
    (var 0 ⊗ (var 0 ⊗ nm ⊖ var 3 ⊗ nn) ⊕ var 1 ⊗ (var 1 ⊗ nm ⊖ var 4 ⊗ nn) ⊕ var 2 ⊗ (var 2 ⊗ nm ⊖ var 5 ⊗ nn))
    (con (pos 0)) refl

abbrev crossed : Plane → Plane → Vector
crossed h k = cross (normal h) (normal k)

along_other : (h k : Plane) → dot (normal k) (along h k) ≡ neg_ℤ ((crossed h k).x *ℤ (crossed h k).x +ℤ (crossed h k).y *ℤ (crossed h k).y +ℤ (crossed h k).z *ℤ (crossed h k).z)
along_other h k =
    let cx = var 1 ⊗ var 5 ⊖ var 2 ⊗ var 4 in
    let cy = var 2 ⊗ var 3 ⊖ var 0 ⊗ var 5 in
    let cz = var 0 ⊗ var 4 ⊖ var 1 ⊗ var 3 in
    ring (numbers h k)
    (var 3 ⊗ (var 0 ⊗ nm ⊖ var 3 ⊗ nn) ⊕ var 4 ⊗ (var 1 ⊗ nm ⊖ var 4 ⊗ nn) ⊕ var 5 ⊗ (var 2 ⊗ nm ⊖ var 5 ⊗ nn))
    (neg (cx ⊗ cx ⊕ cy ⊗ cy ⊕ cz ⊗ cz)) refl

-- ---- parallel planes with a common point are one
none_of_two : (a x b y : ℤ) → x ≡ pos 0 → y ≡ pos 0 → a *ℤ x -ℤ b *ℤ y ≡ pos 0
none_of_two a x b y e f = (λ i. zero_right a x e i -ℤ zero_right b y f i)

from_difference : (x y z : ℤ) → x ≡ y +ℤ z → z ≡ pos 0 → x ≡ y
from_difference x y z e f = omega (arith, ints)

module _ (h k : Plane) (ex : (crossed h k).x ≡ pos 0) (ey : (crossed h k).y ≡ pos 0) (ez : (crossed h k).z ≡ pos 0) where
  multiple_a : dot (normal h) (normal h) *ℤ k.a ≡ dot (normal h) (normal k) *ℤ h.a
  multiple_a = from_difference (dot (normal h) (normal h) *ℤ k.a) (dot (normal h) (normal k) *ℤ h.a) (h.c *ℤ (crossed h k).y -ℤ h.b *ℤ (crossed h k).z)
      (ring (numbers h k) (nn ⊗ var 3) (nm ⊗ var 0 ⊕ (var 2 ⊗ (var 2 ⊗ var 3 ⊖ var 0 ⊗ var 5) ⊖ var 1 ⊗ (var 0 ⊗ var 4 ⊖ var 1 ⊗ var 3))) refl)
      (none_of_two h.c (crossed h k).y h.b (crossed h k).z ey ez)

  multiple_b : dot (normal h) (normal h) *ℤ k.b ≡ dot (normal h) (normal k) *ℤ h.b
  multiple_b = from_difference (dot (normal h) (normal h) *ℤ k.b) (dot (normal h) (normal k) *ℤ h.b) (h.a *ℤ (crossed h k).z -ℤ h.c *ℤ (crossed h k).x)
      (ring (numbers h k) (nn ⊗ var 4) (nm ⊗ var 1 ⊕ (var 0 ⊗ (var 0 ⊗ var 4 ⊖ var 1 ⊗ var 3) ⊖ var 2 ⊗ (var 1 ⊗ var 5 ⊖ var 2 ⊗ var 4))) refl)
      (none_of_two h.a (crossed h k).z h.c (crossed h k).x ez ex)

  multiple_c : dot (normal h) (normal h) *ℤ k.c ≡ dot (normal h) (normal k) *ℤ h.c
  multiple_c = from_difference (dot (normal h) (normal h) *ℤ k.c) (dot (normal h) (normal k) *ℤ h.c) (h.b *ℤ (crossed h k).x -ℤ h.a *ℤ (crossed h k).y)
      (ring (numbers h k) (nn ⊗ var 5) (nm ⊗ var 2 ⊕ (var 1 ⊗ (var 1 ⊗ var 5 ⊖ var 2 ⊗ var 4) ⊖ var 0 ⊗ (var 2 ⊗ var 3 ⊖ var 0 ⊗ var 5))) refl)
      (none_of_two h.b (crossed h k).x h.a (crossed h k).y ex ey)

positive_is_some : (x : ℤ) → pos 0 <ℤ x → x ≢ pos 0
positive_is_some x h e = omega (arith, ints)

-- the distances, from the normals and a common point
distances : (h k : Plane) (p : Point) (m n : ℤ) → p.w ≢ pos 0 → value h p ≡ pos 0 → value k p ≡ pos 0 → m *ℤ k.a ≡ n *ℤ h.a → m *ℤ k.b ≡ n *ℤ h.b → m *ℤ k.c ≡ n *ℤ h.c → m *ℤ k.d ≡ n *ℤ h.d
distances h k p m n some on_h on_k ea eb ec =
    cancel_factor p.w (m *ℤ k.d) (n *ℤ h.d) some
    (out k m ∙ none (m *ℤ k.a *ℤ p.x +ℤ m *ℤ k.b *ℤ p.y +ℤ m *ℤ k.c *ℤ p.z) (m *ℤ value k p) (zero_right m (value k p) on_k)
    ∙ (λ i. ea i *ℤ p.x +ℤ eb i *ℤ p.y +ℤ ec i *ℤ p.z)
    ∙ sym (none (n *ℤ h.a *ℤ p.x +ℤ n *ℤ h.b *ℤ p.y +ℤ n *ℤ h.c *ℤ p.z) (n *ℤ value h p) (zero_right n (value h p) on_h)) ∙ sym (out h n))
  where
    out : (k : Plane) (m : ℤ) → p.w *ℤ (m *ℤ k.d) ≡ m *ℤ k.a *ℤ p.x +ℤ m *ℤ k.b *ℤ p.y +ℤ m *ℤ k.c *ℤ p.z -ℤ m *ℤ value k p
    out k m = ring (m ∷ (k.a ∷ (k.b ∷ (k.c ∷ (k.d ∷ (p.x ∷ (p.y ∷ (p.z ∷ (p.w ∷ [])))))))))
        (var 8 ⊗ (var 0 ⊗ var 4))
        (var 0 ⊗ var 1 ⊗ var 5 ⊕ var 0 ⊗ var 2 ⊗ var 6 ⊕ var 0 ⊗ var 3 ⊗ var 7 ⊖ var 0 ⊗ (var 1 ⊗ var 5 ⊕ var 2 ⊗ var 6 ⊕ var 3 ⊗ var 7 ⊖ var 4 ⊗ var 8)) refl

    none : (x y : ℤ) → y ≡ pos 0 → x -ℤ y ≡ x
    none x y e = omega (arith, ints)

square_zero : (m n s : ℤ) → m ≡ pos 0 → s ≡ pos 0 → n ≡ s → n ≡ pos 0
square_zero m n s e f g = g ∙ f

-- two planes of a book with a common point and parallel normals
module _ (a b : BookPlane) (p : Point) (is : IsPoint p) (on_a : value (plane_of a) p ≡ pos 0) (on_b : value (plane_of b) p ≡ pos 0)
    (ex : (crossed (plane_of a) (plane_of b)).x ≡ pos 0) (ey : (crossed (plane_of a) (plane_of b)).y ≡ pos 0) (ez : (crossed (plane_of a) (plane_of b)).z ≡ pos 0) where
  abbrev h : Plane
  h = plane_of a

  abbrev k : Plane
  k = plane_of b

  abbrev first : ℤ
  first = dot (normal h) (normal h)

  abbrev second : ℤ
  second = dot (normal h) (normal k)

  first_some : first ≢ pos 0
  first_some = positive_is_some first (normal_some a)

  second_some : second ≢ pos 0
  second_some e =
      let square : dot (normal k) (normal k) *ℤ first ≡ pos 0 =
      ring (numbers h k) ((var 3 ⊗ var 3 ⊕ var 4 ⊗ var 4 ⊕ var 5 ⊗ var 5) ⊗ nn) (var 3 ⊗ (nn ⊗ var 3) ⊕ var 4 ⊗ (nn ⊗ var 4) ⊕ var 5 ⊗ (nn ⊗ var 5)) refl
      ∙ none k.a (first *ℤ k.a) k.b (first *ℤ k.b) k.c (first *ℤ k.c) (multiple_a h k ex ey ez ∙ zero_left second h.a e) (multiple_b h k ex ey ez ∙ zero_left second h.b e) (multiple_c h k ex ey ez ∙ zero_left second h.c e) in
      positive_is_some (dot (normal k) (normal k) *ℤ first) (mul_positive (dot (normal k) (normal k)) first (normal_some b) (normal_some a)) square
    where
      none : (u x v y w z : ℤ) → x ≡ pos 0 → y ≡ pos 0 → z ≡ pos 0 → u *ℤ x +ℤ v *ℤ y +ℤ w *ℤ z ≡ pos 0
      none u x v y w z ex ey ez = λ i. zero_right u x ex i +ℤ zero_right v y ey i +ℤ zero_right w z ez i

  pub same_plane : b ≡ a
  same_plane =
      same_from_multiples b a first second first_some second_some (multiple_a h k ex ey ez) (multiple_b h k ex ey ez) (multiple_c h k ex ey ez)
      (distances h k p first second (positive_is_some p.w is) on_a on_b (multiple_a h k ex ey ez) (multiple_b h k ex ey ez) (multiple_c h k ex ey ez))

-- ---- off one plane
pub record OffPoint (h k : Plane) (gs : List Plane) : Type 0 where
  pub point : Point
  pub is_point : IsPoint point
  pub on : value h point ≡ pos 0
  pub within : Each (In point) gs
  pub off : value k point ≢ pos 0

-- ---- a sum of squares
some_sum : (x y z : ℤ) → (x ≢ pos 0) ⊎ ((y ≢ pos 0) ⊎ (z ≢ pos 0)) → pos 0 <ℤ (x *ℤ x +ℤ y *ℤ y +ℤ z *ℤ z)
some_sum x y z (inl h) = first_positive (x *ℤ x) (y *ℤ y) (z *ℤ z) (square_positive x h) (square_nonneg y) (square_nonneg z)
some_sum x y z (inr (inl h)) = second_positive (x *ℤ x) (y *ℤ y) (z *ℤ z) (square_nonneg x) (square_positive y h) (square_nonneg z)
some_sum x y z (inr (inr h)) = third_positive (x *ℤ x) (y *ℤ y) (z *ℤ z) (square_nonneg x) (square_nonneg y) (square_positive z h)

zero_or_not : (x : ℤ) → (x ≡ pos 0) ⊎ (x ≢ pos 0)
zero_or_not x = elim (sign_cases x) [
  | inl low ↦ inr (λ e. below_zero x low e)
  | inr (inl e) ↦ inl e
  | inr (inr high) ↦ inr (positive_is_some x high)
]
  where
    below_zero : (x : ℤ) → x <ℤ pos 0 → x ≢ pos 0
    below_zero x h e = omega (arith, ints)

some_of_three : (x y z : ℤ) → ((x ≡ pos 0) → (y ≡ pos 0) → (z ≡ pos 0) → ⊥) → (x ≢ pos 0) ⊎ ((y ≢ pos 0) ⊎ (z ≢ pos 0))
some_of_three x y z none = elim (zero_or_not x) [
  | inr h ↦ inl h
  | inl ex ↦ elim (zero_or_not y) [
    | inr h ↦ inr (inl h)
    | inl ey ↦ inr (inr (λ ez. none ex ey ez))
  ]
]

negative_some : (n x s v : ℤ) → x ≡ pos 0 → v ≡ n *ℤ x +ℤ neg_ℤ s → pos 0 <ℤ s → v ≢ pos 0
negative_some n x s v e f h g = left (n *ℤ x) s v (zero_right n x e) f h g
  where
    left : (m s v : ℤ) → m ≡ pos 0 → v ≡ m +ℤ neg_ℤ s → pos 0 <ℤ s → v ≡ pos 0 → ⊥
    left m s v e f h g = omega (arith, ints)

both_zero : (n x s v : ℤ) → x ≡ pos 0 → s ≡ pos 0 → v ≡ n *ℤ x +ℤ s → v ≡ pos 0
both_zero n x s v e f g = sum (n *ℤ x) s v (zero_right n x e) f g
  where
    sum : (m s v : ℤ) → m ≡ pos 0 → s ≡ pos 0 → v ≡ m +ℤ s → v ≡ pos 0
    sum m s v e f g = omega (arith, ints)

off_by : (a b : BookPlane) → b ≢ a → (gs : List Plane) (q : Point) → IsPoint q → value (plane_of a) q ≡ pos 0 → Each (In q) gs → OffPoint (plane_of a) (plane_of b) gs
off_by a b other gs q is on within = elim (zero_or_not (value (plane_of b) q)) [
  | inr off ↦ record { point = q; is_point = is; on = on; within = within; off = off }
  | inl on_b ↦
      let h = plane_of a in
      let k = plane_of b in
      let v = along h k in
      let n = reach (λ g. dot (normal g) v) gs in
      let c = crossed h k in
      let some = some_sum c.x c.y c.z (some_of_three c.x c.y c.z (λ ex ey ez. other (same_plane a b q is on on_b ex ey ez))) in
      let moved = stepped-value k v (pos n) q ∙ ap (λ x. pos n *ℤ value k q +ℤ x) (along_other h k) in
      record {
        point = stepped v (pos n) q;
        is_point = mul_positive (pos n) q.w (positive_number n (reach_positive (λ g. dot (normal g) v) gs)) is;
        on = both_zero (pos n) (value h q) (dot (normal h) v) (value h (stepped v (pos n) q)) on (along_own h k) (stepped-value h v (pos n) q);
        within = stepped_within v n q gs (same_is_no_more n) within;
        off = negative_some (pos n) (value k q) (c.x *ℤ c.x +ℤ c.y *ℤ c.y +ℤ c.z *ℤ c.z) (value k (stepped v (pos n) q)) on_b moved some;
      }
]
  where
    same_is_no_more : (n : ℕ) → n ≤ n
    same_is_no_more n = omega arith

pub off_plane : (planes : List BookPlane) (i j : PlaneId) → AreDistinct planes → i.k < length planes → j.k < length planes → (j.k ≡ i.k → ⊥) → (gs : List Plane) (q : Point) → IsPoint q → value (plane_at planes i) q ≡ pos 0
    → Each (In q) gs → OffPoint (plane_at planes i) (plane_at planes j) gs
off_plane planes i j distinct given_i given_j other gs q is on within =
    let a = given_plane planes i.k given_i in
    let b = given_plane planes j.k given_j in
    let differ : b.0 ≢ a.0 = λ same. other (one_number planes j.k i.k b.0 distinct b.1 (a.1 ∙ ap Some (sym same))) in
    subst (λ x. OffPoint (numbered x) (plane_at planes j) gs) (sym a.1) (subst (λ y. OffPoint (plane_of a.0) (numbered y) gs) (sym b.1)
    (off_by a.0 b.0 differ gs q is (subst (λ x. value (numbered x) q ≡ pos 0) a.1 on) within))

-- ---- off all planes of a tree, but for the plane of a number
pub record ClearPoint (planes : List BookPlane) (h : PlaneId) (IsPlane : ℕ → Type 0) (gs : List Plane) : Type 0 where
  pub sides : List Plane
  pub point : Point
  pub is_point : IsPoint point
  pub on : value (plane_at planes h) point ≡ pos 0
  pub within : Each (In point) sides
  pub old : (q : Point) → Each (In q) sides → Each (In q) gs
  pub off : (q : Point) → Each (In q) sides → (k : PlaneId) → IsPlane k.k → (k.k ≡ h.k → ⊥) → value (plane_at planes k) q ≢ pos 0

above_some : (x : ℤ) → pos 0 <ℤ x → x ≢ pos 0
above_some x h e = omega (arith, ints)

opposite_some : (x y : ℤ) → y ≡ neg_ℤ x → pos 0 <ℤ y → x ≢ pos 0
opposite_some x y e h f = omega (arith, ints)

module _ (planes : List BookPlane) (distinct : AreDistinct planes) (h : PlaneId) (given : h.k < length planes) where
  -- off the plane of one number
  first_clear : (k : PlaneId) → k.k < length planes → (gs : List Plane) (q : Point) → IsPoint q → value (plane_at planes h) q ≡ pos 0 → Each (In q) gs → ClearPoint planes h (λ n. n ≡ k.k) gs
  first_clear k given_k gs q is on within = by (nat_eq k.k h.k) refl
    where
      number : (j : PlaneId) → j.k ≡ k.k → plane_at planes j ≡ plane_at planes k
      number j e = ap (λ n. plane_at planes (record { k = n })) e

      sided : (o : OffPoint (plane_at planes h) (plane_at planes k) gs) → ClearPoint planes h (λ n. n ≡ k.k) gs
      sided o = elim (sign_cases (value (plane_at planes k) o.point)) [
        | inl low ↦ record {
          sides = opposite (plane_at planes k) ∷ gs;
          point = o.point;
          is_point = o.is_point;
          on = o.on;
          within = (opposite_front (plane_at planes k) o.point low, o.within);
          old = λ r w. w.1;
          off = λ r w j e other. subst (λ x. value x r ≢ pos 0) (sym (number j e)) (opposite_some (value (plane_at planes k) r) (value (opposite (plane_at planes k)) r) (value-opposite (plane_at planes k) r) w.0);
        }
        | inr (inl e) ↦ absurd (o.off e)
        | inr (inr high) ↦ record {
          sides = plane_at planes k ∷ gs;
          point = o.point;
          is_point = o.is_point;
          on = o.on;
          within = (high, o.within);
          old = λ r w. w.1;
          off = λ r w j e other. subst (λ x. value x r ≢ pos 0) (sym (number j e)) (above_some (value (plane_at planes k) r) w.0);
        }
      ]

      by : (same : Bool) → nat_eq k.k h.k ≡ same → ClearPoint planes h (λ n. n ≡ k.k) gs
      by true e = record { sides = gs; point = q; is_point = is; on = on; within = within; old = λ r w. w; off = λ r w j i other. absurd (other (i ∙ eqb-true k.k h.k e)) }
      by false e = sided (off_plane planes h k distinct given given_k (λ same. true≢false (sym (eq-eqb k.k h.k same) ∙ e)) gs q is on within)

  pub clear : (t : Tree) → IsOfBook planes t → (gs : List Plane) (q : Point) → IsPoint q → value (plane_at planes h) q ≡ pos 0 → Each (In q) gs → ClearPoint planes h (λ n. IsPlaneOf n t) gs
  clear (leaf b) of_book gs q is on within = record { sides = gs; point = q; is_point = is; on = on; within = within; old = λ r w. w; off = λ r w j i other. absurd i }
  clear (node n f g) of_book gs q is on within =
      let a = first_clear (record { k = n }) (of_book n (inl refl)) gs q is on within in
      let b = clear f (λ j i. of_book j (inr (inl i))) a.sides a.point a.is_point a.on a.within in
      let c = clear g (λ j i. of_book j (inr (inr i))) b.sides b.point b.is_point b.on b.within in
      record {
        sides = c.sides;
        point = c.point;
        is_point = c.is_point;
        on = c.on;
        within = c.within;
        old = λ r w. a.old r (b.old r (c.old r w));
        off = λ r w j i other. elim i [
          | inl here ↦ a.off r (b.old r (c.old r w)) j here other
          | inr (inl left) ↦ b.off r (c.old r w) j left other
          | inr (inr right) ↦ c.off r w j right other
        ];
      }
