-- The two neighbours of a point on a plane: on which side of planes they lie.
use Rattle.std.proofs.Common.{◌≡◌, ◌≤◌, ◌<◌, ◌^◌, ◌*◌, ◌+◌, length, ℤ, pos, negsuc, ◌+ℤ◌, ◌*ℤ◌, ◌-ℤ◌, ◌<ℤ◌, ◌≤ℤ◌, neg_ℤ, unsigned_abs, Bool, true, false, List, [], ◌∷◌, inl, inr, refl, sym, subst, arith}
use Rattle.std.proofs.lemmas.Int.{ints, by_lt_z}
use Rattle.spec_space.specs.declared.Plane.{Plane}
use Rattle.spec_space.specs.declared.Point.{Point}
use Rattle.spec_space.specs.Points.{IsPoint, value, normal, dot}
use Rattle.spec_solid.specs.Planes.{front_of, back_of}
use Rattle.plane_core.specs.Views.{plane_of}
use Rattle.plane_core.specs.declared.numbers.Plane.{Plane as BookPlane}
use Rattle.plane_core.specs.declared.book.PlaneId.{PlaneId}
use Rattle.plane_core.proofs.Laws.{reduced_is_reduced}
use Rattle.integer_laws.proofs.Ring.{Expr, var, neg, ◌⊕◌, ◌⊗◌, ◌⊖◌, ring}
use Rattle.integer_laws.proofs.Signs.{mul_positive, mul_nonneg}
use Rattle.integer_laws.proofs.Sizes.{size_add, size_mul}
use Rattle.poly_frag.specs.Cubes.{IsInsideCube}
use Rattle.poly_frag.specs.Frags.{numbered, plane_at}
use Rattle.plane_cells.proofs.Slices.{given_plane}
use Rattle.face_walk.specs.Faces.{IsInRange}
use Rattle.face_walk.specs.Works.{neighbour}

-- strictly in front, or strictly behind
abbrev pub Side : Bool → ℤ → Type 0
Side true v = pos 0 <ℤ v
Side false v = v <ℤ pos 0

-- ---- values at neighbours
abbrev factor : ℤ
factor = pos (2 ^ 54)

abbrev valuee : Expr → Expr → Expr → Expr → Expr
valuee x y z w = var 1 ⊗ x ⊕ var 2 ⊗ y ⊕ var 3 ⊗ z ⊖ var 4 ⊗ w

abbrev dote : Expr
dote = var 1 ⊗ var 5 ⊕ var 2 ⊗ var 6 ⊕ var 3 ⊗ var 7

abbrev numbers : ℤ → Plane → Plane → Point → List ℤ
numbers n k h p = n ∷ (k.a ∷ (k.b ∷ (k.c ∷ (k.d ∷ (h.a ∷ (h.b ∷ (h.c ∷ (p.x ∷ (p.y ∷ (p.z ∷ (p.w ∷ [])))))))))))

ahead : (n : ℤ) (k h : Plane) (p : Point) → k.a *ℤ (n *ℤ p.x +ℤ h.a) +ℤ k.b *ℤ (n *ℤ p.y +ℤ h.b) +ℤ k.c *ℤ (n *ℤ p.z +ℤ h.c) -ℤ k.d *ℤ (n *ℤ p.w) ≡ n *ℤ value k p +ℤ dot (normal k) (normal h)
ahead n k h p = ring (numbers n k h p)
    (valuee (var 0 ⊗ var 8 ⊕ var 5) (var 0 ⊗ var 9 ⊕ var 6) (var 0 ⊗ var 10 ⊕ var 7) (var 0 ⊗ var 11))
    (var 0 ⊗ valuee (var 8) (var 9) (var 10) (var 11) ⊕ dote) refl

behind : (n : ℤ) (k h : Plane) (p : Point) → k.a *ℤ (n *ℤ p.x -ℤ h.a) +ℤ k.b *ℤ (n *ℤ p.y -ℤ h.b) +ℤ k.c *ℤ (n *ℤ p.z -ℤ h.c) -ℤ k.d *ℤ (n *ℤ p.w) ≡ n *ℤ value k p -ℤ dot (normal k) (normal h)
behind n k h p = ring (numbers n k h p)
    (valuee (var 0 ⊗ var 8 ⊖ var 5) (var 0 ⊗ var 9 ⊖ var 6) (var 0 ⊗ var 10 ⊖ var 7) (var 0 ⊗ var 11))
    (var 0 ⊗ valuee (var 8) (var 9) (var 10) (var 11) ⊖ dote) refl

front_value : (k h : Plane) (p : Point) → value k (front_of h p) ≡ factor *ℤ value k p +ℤ dot (normal k) (normal h)
front_value k h p = ahead factor k h p

back_value : (k h : Plane) (p : Point) → value k (back_of h p) ≡ factor *ℤ value k p -ℤ dot (normal k) (normal h)
back_value k h p = behind factor k h p

-- ---- normals of planes of a book
dot_small : (k h : BookPlane) → unsigned_abs (dot (normal (plane_of k)) (normal (plane_of h))) ≤ 2 ^ 26 * 2 ^ 26 + 2 ^ 26 * 2 ^ 26 + 2 ^ 26 * 2 ^ 26
dot_small k h =
    size_add (k.a *ℤ h.a +ℤ k.b *ℤ h.b) (k.c *ℤ h.c) (2 ^ 26 * 2 ^ 26 + 2 ^ 26 * 2 ^ 26) (2 ^ 26 * 2 ^ 26)
    (size_add (k.a *ℤ h.a) (k.b *ℤ h.b) (2 ^ 26 * 2 ^ 26) (2 ^ 26 * 2 ^ 26) (size_mul k.a h.a (2 ^ 26) (2 ^ 26) k.a_small h.a_small) (size_mul k.b h.b (2 ^ 26) (2 ^ 26) k.b_small h.b_small))
    (size_mul k.c h.c (2 ^ 26) (2 ^ 26) k.c_small h.c_small)

pub square_nonneg : (a : ℤ) → pos 0 ≤ℤ (a *ℤ a)
square_nonneg a = by_lt_z a (pos 0)
    (λ low. subst (λ v. pos 0 ≤ℤ v) (ring (a ∷ []) (neg (var 0) ⊗ neg (var 0)) (var 0 ⊗ var 0) refl) (mul_nonneg (neg_ℤ a) (neg_ℤ a) (up a low) (up a low)))
    (λ high. mul_nonneg a a high high)
  where
    up : (a : ℤ) → a <ℤ pos 0 → pos 0 ≤ℤ neg_ℤ a
    up a h = omega (arith, ints)

pub first_positive : (x y z : ℤ) → pos 0 <ℤ x → pos 0 ≤ℤ y → pos 0 ≤ℤ z → pos 0 <ℤ (x +ℤ y +ℤ z)
first_positive x y z h k l = omega (arith, ints)

pub second_positive : (x y z : ℤ) → pos 0 ≤ℤ x → pos 0 <ℤ y → pos 0 ≤ℤ z → pos 0 <ℤ (x +ℤ y +ℤ z)
second_positive x y z h k l = omega (arith, ints)

pub third_positive : (x y z : ℤ) → pos 0 ≤ℤ x → pos 0 ≤ℤ y → pos 0 <ℤ z → pos 0 <ℤ (x +ℤ y +ℤ z)
third_positive x y z h k l = omega (arith, ints)

pub normal_some : (p : BookPlane) → pos 0 <ℤ dot (normal (plane_of p)) (normal (plane_of p))
normal_some p = elim (reduced_is_reduced p).lead [
  | inl k ↦ first_positive (p.a *ℤ p.a) (p.b *ℤ p.b) (p.c *ℤ p.c) (mul_positive p.a p.a k k) (square_nonneg p.b) (square_nonneg p.c)
  | inr (e, inl k) ↦ second_positive (p.a *ℤ p.a) (p.b *ℤ p.b) (p.c *ℤ p.c) (square_nonneg p.a) (mul_positive p.b p.b k k) (square_nonneg p.c)
  | inr (e, inr (f, k)) ↦ third_positive (p.a *ℤ p.a) (p.b *ℤ p.b) (p.c *ℤ p.c) (square_nonneg p.a) (square_nonneg p.b) (mul_positive p.c p.c k k)
]

-- ---- signs
shift_up : (side : Bool) (v s u : ℤ) → unsigned_abs s ≤ 3 * 2 ^ 52 → u ≡ factor *ℤ v +ℤ s → Side side v → Side side u
shift_up true v s u small e h = omega (arith, ints)
shift_up false v s u small e h = omega (arith, ints)

shift_down : (side : Bool) (v s u : ℤ) → unsigned_abs s ≤ 3 * 2 ^ 52 → u ≡ factor *ℤ v -ℤ s → Side side v → Side side u
shift_down true v s u small e h = omega (arith, ints)
shift_down false v s u small e h = omega (arith, ints)

above : (v s u : ℤ) → v ≡ pos 0 → pos 0 <ℤ s → u ≡ factor *ℤ v +ℤ s → pos 0 <ℤ u
above v s u z o e = omega (arith, ints)

below : (v s u : ℤ) → v ≡ pos 0 → pos 0 <ℤ s → u ≡ factor *ℤ v -ℤ s → u <ℤ pos 0
below v s u z o e = omega (arith, ints)

kept_by : (side next : Bool) (k h : BookPlane) (p : Point) → Side side (value (plane_of k) p) → Side side (value (plane_of k) (neighbour next (plane_of h) p))
kept_by side true k h p = shift_up side (value (plane_of k) p) (dot (normal (plane_of k)) (normal (plane_of h))) (value (plane_of k) (front_of (plane_of h) p)) (dot_small k h) (front_value (plane_of k) (plane_of h) p)
kept_by side false k h p = shift_down side (value (plane_of k) p) (dot (normal (plane_of k)) (normal (plane_of h))) (value (plane_of k) (back_of (plane_of h) p)) (dot_small k h) (back_value (plane_of k) (plane_of h) p)

own_by : (side : Bool) (h : BookPlane) (p : Point) → value (plane_of h) p ≡ pos 0 → Side side (value (plane_of h) (neighbour side (plane_of h) p))
own_by true h p on = above (value (plane_of h) p) (dot (normal (plane_of h)) (normal (plane_of h))) (value (plane_of h) (front_of (plane_of h) p)) on (normal_some h) (front_value (plane_of h) (plane_of h) p)
own_by false h p on = below (value (plane_of h) p) (dot (normal (plane_of h)) (normal (plane_of h))) (value (plane_of h) (back_of (plane_of h) p)) on (normal_some h) (back_value (plane_of h) (plane_of h) p)

module _ (planes : List BookPlane) where
  -- a neighbour lies on the side of each other plane on which the point lies
  pub side_kept : (side next : Bool) (k h : PlaneId) (p : Point) → k.k < length planes → h.k < length planes → Side side (value (plane_at planes k) p) → Side side (value (plane_at planes k) (neighbour next (plane_at planes h) p))
  side_kept side next k h p given_k given_h =
      let a = given_plane planes k.k given_k in
      let b = given_plane planes h.k given_h in
      subst (λ q. Side side (value (numbered q) p) → Side side (value (numbered q) (neighbour next (plane_at planes h) p))) (sym a.1)
      (subst (λ q. Side side (value (plane_of a.0) p) → Side side (value (plane_of a.0) (neighbour next (numbered q) p))) (sym b.1) (kept_by side next a.0 b.0 p))

  -- and on its own side of the plane
  pub side_own : (side : Bool) (h : PlaneId) (p : Point) → h.k < length planes → value (plane_at planes h) p ≡ pos 0 → Side side (value (plane_at planes h) (neighbour side (plane_at planes h) p))
  side_own side h p given =
      let b = given_plane planes h.k given in
      subst (λ q. value (numbered q) p ≡ pos 0 → Side side (value (numbered q) (neighbour side (numbered q) p))) (sym b.1) (own_by side b.0 p)

-- ---- the enclosing cube, and the range
factor_positive : pos 0 <ℤ factor
factor_positive = record { lt = tt }

pub neighbour_is_point : (side : Bool) (h : Plane) (p : Point) → IsPoint p → IsPoint (neighbour side h p)
neighbour_is_point true h p is = mul_positive factor p.w factor_positive is
neighbour_is_point false h p is = mul_positive factor p.w factor_positive is

-- a coordinate of a neighbour
abbrev shifted : Bool → ℤ → ℤ → ℤ
shifted true x a = factor *ℤ x +ℤ a
shifted false x a = factor *ℤ x -ℤ a

moved : (c w : ℤ) → c *ℤ (factor *ℤ w) ≡ factor *ℤ (c *ℤ w)
moved c w = swap factor c w
  where
    swap : (n c w : ℤ) → c *ℤ (n *ℤ w) ≡ n *ℤ (c *ℤ w)
    swap n c w = ring (n ∷ (c ∷ (w ∷ []))) (var 1 ⊗ (var 0 ⊗ var 2)) (var 0 ⊗ (var 1 ⊗ var 2)) refl

above_by : (side : Bool) (m x a : ℤ) → unsigned_abs a ≤ 2 ^ 26 → m <ℤ x → (factor *ℤ m) <ℤ shifted side x a
above_by true m x a small h = omega (arith, ints)
above_by false m x a small h = omega (arith, ints)

below_by : (side : Bool) (m x a : ℤ) → unsigned_abs a ≤ 2 ^ 26 → x <ℤ m → shifted side x a <ℤ (factor *ℤ m)
below_by true m x a small h = omega (arith, ints)
below_by false m x a small h = omega (arith, ints)

above_from : (side : Bool) (m x a : ℤ) → unsigned_abs a ≤ 2 ^ 26 → (factor *ℤ m) ≤ℤ shifted side x a → m ≤ℤ x
above_from true m x a small h = omega (arith, ints)
above_from false m x a small h = omega (arith, ints)

below_from : (side : Bool) (m x a : ℤ) → unsigned_abs a ≤ 2 ^ 26 → shifted side x a ≤ℤ (factor *ℤ m) → x ≤ℤ m
below_from true m x a small h = omega (arith, ints)
below_from false m x a small h = omega (arith, ints)

low_side : (side : Bool) (c w x a : ℤ) → unsigned_abs a ≤ 2 ^ 26 → (c *ℤ w) <ℤ x → (c *ℤ (factor *ℤ w)) <ℤ shifted side x a
low_side side c w x a small h = subst (λ v. v <ℤ shifted side x a) (sym (moved c w)) (above_by side (c *ℤ w) x a small h)

high_side : (side : Bool) (c w x a : ℤ) → unsigned_abs a ≤ 2 ^ 26 → x <ℤ (c *ℤ w) → shifted side x a <ℤ (c *ℤ (factor *ℤ w))
high_side side c w x a small h = subst (λ v. shifted side x a <ℤ v) (sym (moved c w)) (below_by side (c *ℤ w) x a small h)

low_from : (side : Bool) (c w x a : ℤ) → unsigned_abs a ≤ 2 ^ 26 → (c *ℤ (factor *ℤ w)) ≤ℤ shifted side x a → (c *ℤ w) ≤ℤ x
low_from side c w x a small h = above_from side (c *ℤ w) x a small (subst (λ v. v ≤ℤ shifted side x a) (moved c w) h)

high_from : (side : Bool) (c w x a : ℤ) → unsigned_abs a ≤ 2 ^ 26 → shifted side x a ≤ℤ (c *ℤ (factor *ℤ w)) → x ≤ℤ (c *ℤ w)
high_from side c w x a small h = below_from side (c *ℤ w) x a small (subst (λ v. shifted side x a ≤ℤ v) (moved c w) h)

-- a point's coordinates, moved
abbrev moved_point : Bool → Plane → Point → Point
moved_point side h p = record { x = shifted side p.x h.a; y = shifted side p.y h.b; z = shifted side p.z h.c; w = factor *ℤ p.w }

neighbour_is : (side : Bool) (h : Plane) (p : Point) → moved_point side h p ≡ neighbour side h p
neighbour_is true h p = refl
neighbour_is false h p = refl

moved_inside : (side : Bool) (h : BookPlane) (p : Point) → IsInsideCube p → IsInsideCube (moved_point side (plane_of h) p)
moved_inside side h p i = record {
  x_low = low_side side (negsuc 1048576) p.w p.x h.a h.a_small i.x_low;
  x_high = high_side side (pos 1048577) p.w p.x h.a h.a_small i.x_high;
  y_low = low_side side (negsuc 1048576) p.w p.y h.b h.b_small i.y_low;
  y_high = high_side side (pos 1048577) p.w p.y h.b h.b_small i.y_high;
  z_low = low_side side (negsuc 1048576) p.w p.z h.c h.c_small i.z_low;
  z_high = high_side side (pos 1048577) p.w p.z h.c h.c_small i.z_high;
}

moved_in_range : (side : Bool) (h : BookPlane) (p : Point) → IsInRange (moved_point side (plane_of h) p) → IsInRange p
moved_in_range side h p i = record {
  x_low = low_from side (negsuc 1048575) p.w p.x h.a h.a_small i.x_low;
  x_high = high_from side (pos 1048576) p.w p.x h.a h.a_small i.x_high;
  y_low = low_from side (negsuc 1048575) p.w p.y h.b h.b_small i.y_low;
  y_high = high_from side (pos 1048576) p.w p.y h.b h.b_small i.y_high;
  z_low = low_from side (negsuc 1048575) p.w p.z h.c h.c_small i.z_low;
  z_high = high_from side (pos 1048576) p.w p.z h.c h.c_small i.z_high;
}

module _ (planes : List BookPlane) (side : Bool) (h : PlaneId) (p : Point) (given : h.k < length planes) where
  -- a neighbour of a point strictly inside the cube is strictly inside
  pub neighbour_inside : IsInsideCube p → IsInsideCube (neighbour side (plane_at planes h) p)
  neighbour_inside i =
      let b = given_plane planes h.k given in
      subst (λ q. IsInsideCube (neighbour side (numbered q) p)) (sym b.1) (subst IsInsideCube (neighbour_is side (plane_of b.0) p) (moved_inside side b.0 p i))

  -- and in range only if the point is
  pub neighbour_in_range : IsInRange (neighbour side (plane_at planes h) p) → IsInRange p
  neighbour_in_range i =
      let b = given_plane planes h.k given in
      moved_in_range side b.0 p (subst IsInRange (sym (neighbour_is side (plane_of b.0) p)) (subst (λ q. IsInRange (neighbour side (numbered q) p)) b.1 i))
