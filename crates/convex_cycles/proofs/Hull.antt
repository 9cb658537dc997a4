-- A convex cycle is the hull of its corners: what holds weakly at all corners holds at all points of the cycle.
use Rattle.std.proofs.Common.{◌≡◌, inl, inr, List, [], ◌∷◌, ◌+◌, ◌≤◌, ℕ, ℤ, pos, negsuc, neg_ℤ, ◌+ℤ◌, ◌*ℤ◌, ◌<ℤ◌, ◌≤ℤ◌, unsigned_abs, refl, sym, ap, ◌∙◌, subst, arith}
use Rattle.std.proofs.lemmas.Int.{ints}
use Rattle.integer_laws.proofs.Ring.{var, con, neg, ◌⊕◌, ◌⊗◌, ring}
use Rattle.integer_laws.proofs.Signs.{mul_nonneg}
use Rattle.spec_space.specs.declared.Point.{Point}
use Rattle.spec_space.specs.declared.Plane.{Plane}
use Rattle.spec_space.specs.Points.{IsPoint, value, opposite}
use Rattle.integer_laws.proofs.Cancel.{sign_cases, mul_nonpos}
use Rattle.convex_cycles.specs.Cycles.{Step}
use Rattle.convex_cycles.proofs.Lists.{Each, Member, each_member, each_from_members}
use Rattle.convex_cycles.proofs.Orders.{weaker, below, level, level_below, turned_up, turned_weakly, negative_sign, not_both, sum_positive_second, positive_unless}
use Rattle.convex_cycles.proofs.Quotes.{valuee}
use Rattle.convex_cycles.proofs.Reaches.{reach, reach_positive, outdone}
use Rattle.convex_cycles.proofs.Crossings.{In, Touches, mean, mean-value, mean-IsPoint, mean_zero}
use Rattle.convex_cycles.proofs.Spares.{IsSpare}
use Rattle.convex_cycles.proofs.Edges.{IsSpare-edge}
use Rattle.convex_cycles.proofs.Fronts.{none_in_front}
use Rattle.convex_cycles.proofs.Links.{IsLinked, sides, each_mapped, edge, prev_member, next_member, at_ends, has_corner}
use Rattle.convex_cycles.proofs.Inner.{inner_point}

-- ---- closure
-- a side that leaves out no point strictly inside gs leaves out no point that touches them, if some point is strictly inside
module _ (s f : Plane) (gs : List Plane) (open_part : (p : Point) → IsPoint p → value s p ≡ pos 0 → Each (In p) gs → pos 0 ≤ℤ value f p) where
  -- m and x, x so often that the value at m does not matter
  abbrev beside : Point → Point → Point
  beside x m = mean (value f m +ℤ pos 1) (pos 1) x m

  above : (v : ℤ) → pos 0 ≤ℤ v → pos 0 <ℤ (v +ℤ pos 1)
  above v h = omega (arith, ints)

  beside_within : (x m : Point) → pos 0 ≤ℤ value f m → (hs : List Plane) → Each (Touches x) hs → Each (In m) hs → Each (In (beside x m)) hs
  beside_within x m h [] t i = tt
  beside_within x m h (g ∷ hs) t i = (
    subst (λ v. pos 0 <ℤ v) (sym (mean-value (value f m +ℤ pos 1) (pos 1) x m g))
        (sum_positive_second ((value f m +ℤ pos 1) *ℤ value g x) (pos 1 *ℤ value g m) (mul_nonneg (value f m +ℤ pos 1) (value g x) (weaker (value f m +ℤ pos 1) (above (value f m) h)) t.0) (once (value g m) i.0)),
    beside_within x m h hs t.1 i.1,
  )
    where
      once : (v : ℤ) → pos 0 <ℤ v → pos 0 <ℤ (pos 1 *ℤ v)
      once v h = omega (arith, ints)

  -- n + 1 times a number below 0 is below -n
  sunk : (n v : ℤ) → pos 0 ≤ℤ n → v <ℤ pos 0 → ((n +ℤ pos 1) *ℤ v +ℤ pos 1 *ℤ n) <ℤ pos 0
  sunk n v h k = total ((n +ℤ pos 1) *ℤ v +ℤ pos 1 *ℤ n) ((n +ℤ pos 1) *ℤ (v +ℤ pos 1)) (ring (n ∷ (v ∷ [])) ((var 0 ⊕ con (pos 1)) ⊗ var 1 ⊕ con (pos 1) ⊗ var 0) ((var 0 ⊕ con (pos 1)) ⊗ (var 1 ⊕ con (pos 1)) ⊕ con (negsuc 0)) refl) (mul_nonpos (n +ℤ pos 1) (v +ℤ pos 1) (weaker (n +ℤ pos 1) (above n h)) (up v k))
    where
      up : (v : ℤ) → v <ℤ pos 0 → (v +ℤ pos 1) ≤ℤ pos 0
      up v h = omega (arith, ints)

      total : (x y : ℤ) → x ≡ y +ℤ negsuc 0 → y ≤ℤ pos 0 → x <ℤ pos 0
      total x y e h = omega (arith, ints)

  pub closure_one : (m : Point) → IsPoint m → value s m ≡ pos 0 → Each (In m) gs → (x : Point) → IsPoint x → value s x ≡ pos 0 → Each (Touches x) gs → pos 0 ≤ℤ value f x
  closure_one m m_point m_on m_in x x_point x_on x_touches = elim (sign_cases (value f x)) [
    | inl low ↦ absurd (clash (value f (beside x m)) (subst (λ v. v <ℤ pos 0) (sym (mean-value (value f m +ℤ pos 1) (pos 1) x m f)) (sunk (value f m) (value f x) inner low))
        (open_part (beside x m) (mean-IsPoint (value f m +ℤ pos 1) (pos 1) x m (above (value f m) inner) one_nonneg x_point m_point) (mean_zero (value f m +ℤ pos 1) (pos 1) x m s x_on m_on)
        (beside_within x m inner gs x_touches m_in)))
    | inr (inl same) ↦ level (value f x) same
    | inr (inr high) ↦ weaker (value f x) high
  ]
    where
      inner : pos 0 ≤ℤ value f m
      inner = open_part m m_point m_on m_in

      one_nonneg : pos 0 ≤ℤ pos 1
      one_nonneg = omega (arith, ints)

      clash : (v : ℤ) → v <ℤ pos 0 → pos 0 ≤ℤ v → ⊥
      clash v h k = omega (arith, ints)

-- so of many sides
pub closure : (s : Plane) (gs fs : List Plane) → ((p : Point) → IsPoint p → value s p ≡ pos 0 → Each (In p) gs → Each (In p) fs)
    → (m : Point) → IsPoint m → value s m ≡ pos 0 → Each (In m) gs
    → (x : Point) → IsPoint x → value s x ≡ pos 0 → Each (Touches x) gs → Each (Touches x) fs
closure s gs fs open_part m m_point m_on m_in x x_point x_on x_touches =
    each_from_members (Touches x) fs (λ f f_of. closure_one s f gs (λ p p_point p_on p_in. weaker (value f p) (each_member (In p) f fs f_of (open_part p p_point p_on p_in))) m m_point m_on m_in x x_point x_on x_touches)

-- ---- the plane seen from its other side
pub value-opposite : (h : Plane) (p : Point) → value (opposite h) p ≡ neg_ℤ (value h p)
value-opposite h p = ring (h.a ∷ (h.b ∷ (h.c ∷ (h.d ∷ (p.x ∷ (p.y ∷ (p.z ∷ (p.w ∷ []))))))))
    (valuee (neg (var 0)) (neg (var 1)) (neg (var 2)) (neg (var 3)) (var 4) (var 5) (var 6) (var 7))
    (neg (valuee (var 0) (var 1) (var 2) (var 3) (var 4) (var 5) (var 6) (var 7))) refl

pub opposite_low : (h : Plane) (p : Point) → pos 0 ≤ℤ value h p → value (opposite h) p ≤ℤ pos 0
opposite_low h p k = subst (λ v. v ≤ℤ pos 0) (sym (value-opposite h p)) (down (value h p) k)
  where
    down : (x : ℤ) → pos 0 ≤ℤ x → neg_ℤ x ≤ℤ pos 0
    down x h = omega (arith, ints)

pub opposite_high : (h : Plane) (p : Point) → value h p ≤ℤ pos 0 → pos 0 ≤ℤ value (opposite h) p
opposite_high h p k = subst (λ v. pos 0 ≤ℤ v) (sym (value-opposite h p)) (turned_weakly (value h p) k)

pub from_opposite_low : (h : Plane) (p : Point) → value (opposite h) p ≤ℤ pos 0 → pos 0 ≤ℤ value h p
from_opposite_low h p k = up (value h p) (subst (λ v. v ≤ℤ pos 0) (value-opposite h p) k)
  where
    up : (x : ℤ) → neg_ℤ x ≤ℤ pos 0 → pos 0 ≤ℤ x
    up x h = omega (arith, ints)

pub from_opposite_high : (h : Plane) (p : Point) → pos 0 ≤ℤ value (opposite h) p → value h p ≤ℤ pos 0
from_opposite_high h p k = down (value h p) (subst (λ v. pos 0 ≤ℤ v) (value-opposite h p) k)
  where
    down : (x : ℤ) → pos 0 ≤ℤ neg_ℤ x → x ≤ℤ pos 0
    down x h = omega (arith, ints)

pub opposite_front : (h : Plane) (p : Point) → value h p <ℤ pos 0 → In p (opposite h)
opposite_front h p k = subst (λ v. pos 0 <ℤ v) (sym (value-opposite h p)) (turned_up (value h p) k)

pub from_opposite_front : (h : Plane) (p : Point) → In p (opposite h) → value h p <ℤ pos 0
from_opposite_front h p k = negative_sign (value h p) (subst (λ v. pos 0 <ℤ v) (value-opposite h p) k)

-- ---- hulls
module _ (s : Plane) (steps : List Step) (linked : IsLinked s steps) where
  -- where no corner is in front of h, all sides are spare, and no inner point is in front
  all_spare : (h : Plane) → ((e : Step) → Member e steps → value h e.start ≤ℤ pos 0) → Each (IsSpare s [] (sides steps) h) (sides steps)
  all_spare h low = each_mapped (IsSpare s [] (sides steps) h) (λ e. e.side) steps (λ e e_of. IsSpare-edge s h [] (sides steps) e (edge s steps linked e e_of)
      (inr (prev_member s steps linked e e_of)) (inr (next_member s steps linked e e_of)) (low e e_of) (at_ends s steps linked (λ p. value h p ≤ℤ pos 0) low e e_of))

  pub weak_hull_behind : (h : Plane) → ((e : Step) → Member e steps → value h e.start ≤ℤ pos 0) → (p : Point) → value s p ≡ pos 0 → Each (In p) (sides steps) → value h p ≤ℤ pos 0
  weak_hull_behind h low p on within = elim (sign_cases (value h p)) [
    | inl under ↦ below (value h p) under
    | inr (inl same) ↦ level_below (value h p) same
    | inr (inr high) ↦ absurd (none_in_front s h (sides steps) (has_corner s steps linked) (all_spare h low) p on within high)
  ]

  pub weak_hull : (h : Plane) → ((e : Step) → Member e steps → pos 0 ≤ℤ value h e.start) → (p : Point) → value s p ≡ pos 0 → Each (In p) (sides steps) → pos 0 ≤ℤ value h p
  weak_hull h high p on within = from_opposite_low h p (weak_hull_behind (opposite h) (λ e e_of. opposite_low h e.start (high e e_of)) p on within)

  -- the same at each point that touches all sides
  pub closed_hull : (h : Plane) → ((e : Step) → Member e steps → pos 0 ≤ℤ value h e.start) → (x : Point) → IsPoint x → value s x ≡ pos 0 → Each (Touches x) (sides steps) → pos 0 ≤ℤ value h x
  closed_hull h high x x_point x_on x_touches =
      let m = inner_point s steps linked in
      closure_one s h (sides steps) (λ p p_point p_on p_in. weak_hull h high p p_on p_in) m.point m.is_point m.on m.within x x_point x_on x_touches

  pub closed_hull_behind : (h : Plane) → ((e : Step) → Member e steps → value h e.start ≤ℤ pos 0) → (x : Point) → IsPoint x → value s x ≡ pos 0 → Each (Touches x) (sides steps) → value h x ≤ℤ pos 0
  closed_hull_behind h low x x_point x_on x_touches = from_opposite_high h x (closed_hull (opposite h) (λ e e_of. opposite_high h e.start (low e e_of)) x x_point x_on x_touches)

  -- ---- strictly
  -- beyond p, seen from c
  abbrev beyond : ℕ → Point → Point → Point
  beyond n p c = mean (pos n) (negsuc 0) p c

  beyond-value : (n : ℕ) (p c : Point) (h : Plane) → value h (beyond n p c) ≡ pos n *ℤ value h p +ℤ neg_ℤ (value h c)
  beyond-value n p c h = mean-value (pos n) (negsuc 0) p c h ∙ ap (λ v. pos n *ℤ value h p +ℤ v) (once (value h c))
    where
      once : (v : ℤ) → negsuc 0 *ℤ v ≡ neg_ℤ v
      once v = omega (arith, ints)

  beyond_within : (n : ℕ) (p c : Point) (gs : List Plane) → reach (λ g. value g c) gs ≤ n → Each (In p) gs → Each (In (beyond n p c)) gs
  beyond_within n p c [] r i = tt
  beyond_within n p c (g ∷ gs) r i =
      let rest = reach_positive (λ g. value g c) gs in
      (subst (λ v. pos 0 <ℤ v) (sym (beyond-value n p c g)) (outdone n (value g p) (neg_ℤ (value g c)) i.0 (turned_size (value g c) (reach (λ g. value g c) gs) n rest r)), beyond_within n p c gs (rest_small (unsigned_abs (value g c)) (reach (λ g. value g c) gs) n r) i.1)
    where
      turned_size : (v : ℤ) (r n : ℕ) → 1 ≤ r → unsigned_abs v + r ≤ n → unsigned_abs (neg_ℤ v) + 1 ≤ n
      turned_size v r n h k = omega (arith, ints)

      rest_small : (a r n : ℕ) → a + r ≤ n → r ≤ n
      rest_small a r n h = omega arith

  -- strictly inside all sides h is above 0 if it is above 0 at one corner and below 0 at none
  pub strict_hull : (h : Plane) → ((e : Step) → Member e steps → pos 0 ≤ℤ value h e.start) → (c : Step) → Member c steps → pos 0 <ℤ value h c.start
      → (p : Point) → value s p ≡ pos 0 → Each (In p) (sides steps) → pos 0 <ℤ value h p
  strict_hull h high c c_of front p on within = positive_unless (value h p) (weak_hull h high p on within) not_on
    where
      far : ℕ
      far = reach (λ g. value g c.start) (sides steps)

      not_on : value h p ≡ pos 0 → ⊥
      not_on e =
          not_both (value h c.start) front
          (sunk_corner (pos far) (value h p) (value h c.start) e
          (subst (λ v. pos 0 ≤ℤ v) (beyond-value far p c.start h)
          (weak_hull h high (beyond far p c.start) (mean_zero (pos far) (negsuc 0) p c.start s on (edge s steps linked c c_of).start_on) (beyond_within far p c.start (sides steps) (omega arith) within))))
        where
          sunk_corner : (n v w : ℤ) → v ≡ pos 0 → pos 0 ≤ℤ (n *ℤ v +ℤ neg_ℤ w) → w ≤ℤ pos 0
          sunk_corner n v w e h = from w (subst (λ x. pos 0 ≤ℤ (n *ℤ x +ℤ neg_ℤ w)) e h)
            where
              from : (w : ℤ) → pos 0 ≤ℤ (n *ℤ pos 0 +ℤ neg_ℤ w) → w ≤ℤ pos 0
              from w h = omega (arith, ints)

  pub strict_hull_behind : (h : Plane) → ((e : Step) → Member e steps → value h e.start ≤ℤ pos 0) → (c : Step) → Member c steps → value h c.start <ℤ pos 0
      → (p : Point) → value s p ≡ pos 0 → Each (In p) (sides steps) → value h p <ℤ pos 0
  strict_hull_behind h low c c_of back p on within =
      from_opposite_front h p (strict_hull (opposite h) (λ e e_of. opposite_high h e.start (low e e_of)) c c_of (opposite_front h c.start back) p on within)
