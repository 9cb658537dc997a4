-- No point with a coordinate above the sizes of corners is inside a bounded solid.
use Rattle.std.proofs.Common.{◌≡◌, ◌≢◌, ◌≤◌, ◌^◌, ℤ, pos, negsuc, ◌+ℤ◌, ◌-ℤ◌, ◌*ℤ◌, ◌<ℤ◌, ◌≤ℤ◌, int_lt, int_le, unsigned_abs, Bool, true, false, not, ◌&&◌, ◌||◌, List, [], ◌∷◌, map, refl, sym, ap, ap₂, ◌∙◌, ◌⊎◌, inl, inr, arith, true≢false}
use Rattle.std.specs.Prelude.{if◌then◌else◌}
use Rattle.std.specs.List.{All, Contains, flat_map}
use Rattle.std.proofs.lemmas.Int.{ints}
use Rattle.std.proofs.lemmas.List.Elements.{All-head, All-tail, Contains-append_left, Contains-append_right}
use Rattle.spec_space.specs.declared.Point.{Point}
use Rattle.spec_space.specs.declared.Plane.{Plane}
use Rattle.spec_space.specs.Points.{IsPoint, value}
use Rattle.spec_solid.specs.declared.BoolOp.TheVariants.{Union, Intersection, Difference}
use Rattle.spec_solid.specs.Triangles.{Triangle, differ, is_pierced}
use Rattle.spec_solid.specs.Solids.{pierces_oddly, is_inside, is_inside_some}
use Rattle.spec_solid.specs.Planes.{solid_planes}
use Rattle.integer_laws.proofs.Ring.{var, ◌⊕◌, ◌⊗◌, ◌⊖◌, ring}
use Rattle.integer_laws.proofs.Signs.{mul_positive, mul_negative, mul_nonneg}
use Rattle.integer_laws.proofs.Cancel.{sign_cases, mul_zero_right, positive_right, mul_nonpos}
use Rattle.ray_law.specs.Columns.{is_below}
use Rattle.ray_law.specs.Shells.{lies_below_oddly}
use Rattle.ray_law.proofs.Shells.{ray_law}
use Rattle.grid_solid.specs.Triangles.{triangle_of, IsNear}
use Rattle.grid_solid.specs.Shapes.{Shape, Triangles, Half, Joined, Nothing, shape_solid}
use Rattle.grid_solid.specs.Bounds.{is_bounded, IsBounded}
use Rattle.grid_solid.specs.Views.{shape_of, solid_of}
use Rattle.grid_solid.specs.declared.nodes.GridNode.{GridNode}
use Rattle.solid_tree.specs.Elements.{IsOut, out_left, out_right, out_front, out_back, out_down, out_up}

-- ---- an edge that lies all below, or all above
across : (w lc ly hc hy qc qy : ℤ) → w *ℤ ((qc -ℤ lc *ℤ w) *ℤ (hy -ℤ ly) -ℤ (qy -ℤ ly *ℤ w) *ℤ (hc -ℤ lc)) ≡ (hy *ℤ w -ℤ qy) *ℤ (qc -ℤ lc *ℤ w) +ℤ (qy -ℤ ly *ℤ w) *ℤ (qc -ℤ hc *ℤ w)
across w lc ly hc hy qc qy = ring (w ∷ (lc ∷ (ly ∷ (hc ∷ (hy ∷ (qc ∷ (qy ∷ [])))))))
    (var 0 ⊗ ((var 5 ⊖ var 1 ⊗ var 0) ⊗ (var 4 ⊖ var 2) ⊖ (var 6 ⊖ var 2 ⊗ var 0) ⊗ (var 3 ⊖ var 1)))
    ((var 4 ⊗ var 0 ⊖ var 6) ⊗ (var 5 ⊖ var 1 ⊗ var 0) ⊕ (var 6 ⊖ var 2 ⊗ var 0) ⊗ (var 5 ⊖ var 3 ⊗ var 0)) refl

not_less : (x y : ℤ) (b : Bool) → int_lt x y ≡ b → pos 0 <ℤ (x -ℤ y) → b ≡ false
not_less x y true e h = absurd (omega (arith, ints))
not_less x y false e h = refl

less : (x y : ℤ) (b : Bool) → int_lt x y ≡ b → (x -ℤ y) <ℤ pos 0 → b ≡ true
less x y true e h = refl
less x y false e h = absurd (omega (arith, ints))

above_zero : (x y : ℤ) → pos 0 <ℤ x → pos 0 ≤ℤ y → pos 0 <ℤ (x +ℤ y)
above_zero x y p q = omega (arith, ints)

below_zero : (x y : ℤ) → x <ℤ pos 0 → y ≤ℤ pos 0 → (x +ℤ y) <ℤ pos 0
below_zero x y p q = omega (arith, ints)

negative_right : (a b : ℤ) → pos 0 <ℤ a → (a *ℤ b) <ℤ pos 0 → b <ℤ pos 0
negative_right a b p q = elim (sign_cases b) [
  | inl n ↦ n
  | inr (inl e) ↦ absurd (not_zero (a *ℤ b) q (ap (λ x. a *ℤ x) e ∙ mul_zero_right a))
  | inr (inr h) ↦ absurd (not_both (a *ℤ b) q (mul_positive a b p h))
]
  where
    not_zero : (v : ℤ) → v <ℤ pos 0 → v ≡ pos 0 → ⊥
    not_zero v h e = omega (arith, ints)

    not_both : (v : ℤ) → v <ℤ pos 0 → pos 0 <ℤ v → ⊥
    not_both v h k = omega (arith, ints)

weakly : (x : ℤ) → pos 0 <ℤ x → pos 0 ≤ℤ x
weakly x p = omega (arith, ints)

weakly_below : (x : ℤ) → x <ℤ pos 0 → x ≤ℤ pos 0
weakly_below x p = omega (arith, ints)

module _ (w lc ly hc hy qc qy : ℤ) (positive : pos 0 <ℤ w) (low : pos 0 ≤ℤ (qy -ℤ ly *ℤ w)) (high : pos 0 <ℤ (hy *ℤ w -ℤ qy)) where
  abbrev left : ℤ
  left = (qc -ℤ lc *ℤ w) *ℤ (hy -ℤ ly)

  abbrev right : ℤ
  right = (qy -ℤ ly *ℤ w) *ℤ (hc -ℤ lc)

  rises_not : pos 0 <ℤ (qc -ℤ lc *ℤ w) → pos 0 <ℤ (qc -ℤ hc *ℤ w) → int_lt left right ≡ false
  rises_not p q =
      let sum = above_zero ((hy *ℤ w -ℤ qy) *ℤ (qc -ℤ lc *ℤ w)) ((qy -ℤ ly *ℤ w) *ℤ (qc -ℤ hc *ℤ w)) (mul_positive (hy *ℤ w -ℤ qy) (qc -ℤ lc *ℤ w) high p)
      (mul_nonneg (qy -ℤ ly *ℤ w) (qc -ℤ hc *ℤ w) low (weakly (qc -ℤ hc *ℤ w) q)) in
      not_less left right (int_lt left right) refl (positive_right w (left -ℤ right) positive (rw (across w lc ly hc hy qc qy) sum))

  rises_all : (qc -ℤ lc *ℤ w) <ℤ pos 0 → (qc -ℤ hc *ℤ w) <ℤ pos 0 → int_lt left right ≡ true
  rises_all p q =
      let sum = below_zero ((hy *ℤ w -ℤ qy) *ℤ (qc -ℤ lc *ℤ w)) ((qy -ℤ ly *ℤ w) *ℤ (qc -ℤ hc *ℤ w)) (mul_negative (hy *ℤ w -ℤ qy) (qc -ℤ lc *ℤ w) high p)
      (mul_nonpos (qy -ℤ ly *ℤ w) (qc -ℤ hc *ℤ w) low (weakly_below (qc -ℤ hc *ℤ w) q)) in
      less left right (int_lt left right) refl (negative_right w (left -ℤ right) positive (rw (across w lc ly hc hy qc qy) sum))

-- ---- the sizes of corners
over : (v w n q : ℤ) → pos 0 <ℤ w → v ≤ℤ n → (n *ℤ w) <ℤ q → pos 0 <ℤ (q -ℤ v *ℤ w)
over v w n q p h k = by (v *ℤ w) (n *ℤ w) q ((n -ℤ v) *ℤ w) (mul_nonneg (n -ℤ v) w (apart v n h) (weakly w p)) (ring (n ∷ (v ∷ (w ∷ []))) ((var 0 ⊖ var 1) ⊗ var 2) (var 0 ⊗ var 2 ⊖ var 1 ⊗ var 2) refl) k
  where
    apart : (v n : ℤ) → v ≤ℤ n → pos 0 ≤ℤ (n -ℤ v)
    apart v n h = omega (arith, ints)

    by : (a b q d : ℤ) → pos 0 ≤ℤ d → d ≡ b -ℤ a → b <ℤ q → pos 0 <ℤ (q -ℤ a)
    by a b q d h e k = omega (arith, ints)

under : (v w n q : ℤ) → pos 0 <ℤ w → n ≤ℤ v → q <ℤ (n *ℤ w) → (q -ℤ v *ℤ w) <ℤ pos 0
under v w n q p h k = by (v *ℤ w) (n *ℤ w) q ((v -ℤ n) *ℤ w) (mul_nonneg (v -ℤ n) w (apart v n h) (weakly w p)) (ring (n ∷ (v ∷ (w ∷ []))) ((var 1 ⊖ var 0) ⊗ var 2) (var 1 ⊗ var 2 ⊖ var 0 ⊗ var 2) refl) k
  where
    apart : (v n : ℤ) → n ≤ℤ v → pos 0 ≤ℤ (v -ℤ n)
    apart v n h = omega (arith, ints)

    by : (a b q d : ℤ) → pos 0 ≤ℤ d → d ≡ a -ℤ b → q <ℤ b → (q -ℤ a) <ℤ pos 0
    by a b q d h e k = omega (arith, ints)

most : (v : ℤ) → unsigned_abs v ≤ 2 ^ 20 → v ≤ℤ pos 1048576
most v h = omega (arith, ints)

least : (v : ℤ) → unsigned_abs v ≤ 2 ^ 20 → negsuc 1048575 ≤ℤ v
least v h = omega (arith, ints)

-- ---- low corners
low_end : (x y : ℤ) → int_le x y ≡ true → pos 0 ≤ℤ (y -ℤ x)
low_end x y e = omega (arith, ints)

high_end : (x y : ℤ) → int_le x y ≡ false → pos 0 <ℤ (x -ℤ y)
high_end x y e = omega (arith, ints)

all_low : (x y : ℤ) (b : Bool) → int_le x y ≡ b → pos 0 <ℤ (y -ℤ x) → b ≡ true
all_low x y true e h = refl
all_low x y false e h = absurd (omega (arith, ints))

none_low : (x y : ℤ) (b : Bool) → int_le x y ≡ b → (y -ℤ x) <ℤ pos 0 → b ≡ false
none_low x y true e h = absurd (omega (arith, ints))
none_low x y false e h = refl

-- an edge passes by whether its ends are low, and by the rises from the low end
abbrev passes : Bool → Bool → Bool → Bool → Bool
passes s t up down = if s then (if t then false else up) else (if t then down else false)

same_ends : (s t u v : Bool) → s ≡ t → passes s t u v ≡ false
same_ends true true u v e = refl
same_ends true false u v e = absurd (true≢false e)
same_ends false true u v e = absurd (true≢false (sym e))
same_ends false false u v e = refl

even : (s t u : Bool) → differ (differ (differ s t) (differ t u)) (differ u s) ≡ false
even true true true = refl
even true true false = refl
even true false true = refl
even true false false = refl
even false true true = refl
even false true false = refl
even false false true = refl
even false false false = refl

-- one coordinate of a corner, and its y
module _ (q : Point) (point : IsPoint q) where
  abbrev low : ℤ → Bool
  low y = int_le (y *ℤ q.w) q.y

  abbrev rises : ℤ → ℤ → ℤ → ℤ → ℤ → Bool
  rises at lc ly hc hy = int_lt ((at -ℤ lc *ℤ q.w) *ℤ (hy -ℤ ly)) ((q.y -ℤ ly *ℤ q.w) *ℤ (hc -ℤ lc))

  abbrev edge : ℤ → ℤ → ℤ → ℤ → ℤ → Bool
  edge at ac ay bc by = passes (low ay) (low by) (rises at ac ay bc by) (rises at bc by ac ay)

  -- both ends are low, or none is
  beside_edge : (at ac ay bc by : ℤ) → low ay ≡ low by → edge at ac ay bc by ≡ false
  beside_edge at ac ay bc by e = same_ends (low ay) (low by) (rises at ac ay bc by) (rises at bc by ac ay) e

  -- both ends are below the point
  over_edge : (at ac ay bc by : ℤ) → pos 0 <ℤ (at -ℤ ac *ℤ q.w) → pos 0 <ℤ (at -ℤ bc *ℤ q.w) → edge at ac ay bc by ≡ false
  over_edge at ac ay bc by p r = cases (low ay) (low by) refl refl
    where
      cases : (s t : Bool) → low ay ≡ s → low by ≡ t → passes s t (rises at ac ay bc by) (rises at bc by ac ay) ≡ false
      cases true true e f = refl
      cases true false e f = rises_not q.w ac ay bc by at q.y point (low_end (ay *ℤ q.w) q.y e) (high_end (by *ℤ q.w) q.y f) p r
      cases false true e f = rises_not q.w bc by ac ay at q.y point (low_end (by *ℤ q.w) q.y f) (high_end (ay *ℤ q.w) q.y e) r p
      cases false false e f = refl

  -- both ends are above the point
  under_edge : (at ac ay bc by : ℤ) → (at -ℤ ac *ℤ q.w) <ℤ pos 0 → (at -ℤ bc *ℤ q.w) <ℤ pos 0 → edge at ac ay bc by ≡ differ (low ay) (low by)
  under_edge at ac ay bc by p r = cases (low ay) (low by) refl refl
    where
      cases : (s t : Bool) → low ay ≡ s → low by ≡ t → passes s t (rises at ac ay bc by) (rises at bc by ac ay) ≡ differ s t
      cases true true e f = refl
      cases true false e f = rises_all q.w ac ay bc by at q.y point (low_end (ay *ℤ q.w) q.y e) (high_end (by *ℤ q.w) q.y f) p r
      cases false true e f = rises_all q.w bc by ac ay at q.y point (low_end (by *ℤ q.w) q.y f) (high_end (ay *ℤ q.w) q.y e) r p
      cases false false e f = refl

  abbrev three : ℤ → ℤ → ℤ → ℤ → ℤ → ℤ → ℤ → Bool
  three at ac ay bc by cc cy = differ (differ (edge at ac ay bc by) (edge at bc by cc cy)) (edge at cc cy ac ay)

  over_three : (at ac ay bc by dc dy : ℤ) → pos 0 <ℤ (at -ℤ ac *ℤ q.w) → pos 0 <ℤ (at -ℤ bc *ℤ q.w) → pos 0 <ℤ (at -ℤ dc *ℤ q.w) → three at ac ay bc by dc dy ≡ false
  over_three at ac ay bc by dc dy p r s = λ i. differ (differ (over_edge at ac ay bc by p r i) (over_edge at bc by dc dy r s i)) (over_edge at dc dy ac ay s p i)

  under_three : (at ac ay bc by dc dy : ℤ) → (at -ℤ ac *ℤ q.w) <ℤ pos 0 → (at -ℤ bc *ℤ q.w) <ℤ pos 0 → (at -ℤ dc *ℤ q.w) <ℤ pos 0 → three at ac ay bc by dc dy ≡ false
  under_three at ac ay bc by dc dy p r s =
      (λ i. differ (differ (under_edge at ac ay bc by p r i) (under_edge at bc by dc dy r s i)) (under_edge at dc dy ac ay s p i))
      ∙ even (low ay) (low by) (low dy)

  beside_three : (at ac ay bc by dc dy : ℤ) (b : Bool) → low ay ≡ b → low by ≡ b → low dy ≡ b → three at ac ay bc by dc dy ≡ false
  beside_three at ac ay bc by dc dy b e f g = λ i. differ (differ (beside_edge at ac ay bc by (e ∙ sym f) i) (beside_edge at bc by dc dy (f ∙ sym g) i)) (beside_edge at dc dy ac ay (g ∙ sym e) i)

  and_false : (p r : Bool) → p ≡ false → (p && r) ≡ false
  and_false p r e = ap (λ b. b && r) e

  -- the three coordinates of the corners of a triangle
  module _ (t : Triangle) (near : IsNear t) where
    not_pierced : three q.z t.a.z t.a.y t.b.z t.b.y t.c.z t.c.y ≡ false → is_pierced t q ≡ false
    not_pierced e = and_false _ _ e

    not_below : three q.x t.a.x t.a.y t.b.x t.b.y t.c.x t.c.y ≡ false → is_below t q ≡ false
    not_below e = and_false _ _ e

    high_z : (pos 1048576 *ℤ q.w) <ℤ q.z → is_pierced t q ≡ false
    high_z h = not_pierced (over_three q.z t.a.z t.a.y t.b.z t.b.y t.c.z t.c.y (over t.a.z q.w (pos 1048576) q.z point (most t.a.z near.a.z) h) (over t.b.z q.w (pos 1048576) q.z point (most t.b.z near.b.z) h) (over t.c.z q.w (pos 1048576) q.z point (most t.c.z near.c.z) h))

    low_z : q.z <ℤ (negsuc 1048575 *ℤ q.w) → is_pierced t q ≡ false
    low_z h = not_pierced (under_three q.z t.a.z t.a.y t.b.z t.b.y t.c.z t.c.y (under t.a.z q.w (negsuc 1048575) q.z point (least t.a.z near.a.z) h) (under t.b.z q.w (negsuc 1048575) q.z point (least t.b.z near.b.z) h) (under t.c.z q.w (negsuc 1048575) q.z point (least t.c.z near.c.z) h))

    high_x : (pos 1048576 *ℤ q.w) <ℤ q.x → is_below t q ≡ false
    high_x h = not_below (over_three q.x t.a.x t.a.y t.b.x t.b.y t.c.x t.c.y (over t.a.x q.w (pos 1048576) q.x point (most t.a.x near.a.x) h) (over t.b.x q.w (pos 1048576) q.x point (most t.b.x near.b.x) h) (over t.c.x q.w (pos 1048576) q.x point (most t.c.x near.c.x) h))

    low_x : q.x <ℤ (negsuc 1048575 *ℤ q.w) → is_below t q ≡ false
    low_x h = not_below (under_three q.x t.a.x t.a.y t.b.x t.b.y t.c.x t.c.y (under t.a.x q.w (negsuc 1048575) q.x point (least t.a.x near.a.x) h) (under t.b.x q.w (negsuc 1048575) q.x point (least t.b.x near.b.x) h) (under t.c.x q.w (negsuc 1048575) q.x point (least t.c.x near.c.x) h))

    high_y : (pos 1048576 *ℤ q.w) <ℤ q.y → is_pierced t q ≡ false
    high_y h = not_pierced (beside_three q.z t.a.z t.a.y t.b.z t.b.y t.c.z t.c.y true
        (all_low (t.a.y *ℤ q.w) q.y (low t.a.y) refl (over t.a.y q.w (pos 1048576) q.y point (most t.a.y near.a.y) h))
        (all_low (t.b.y *ℤ q.w) q.y (low t.b.y) refl (over t.b.y q.w (pos 1048576) q.y point (most t.b.y near.b.y) h))
        (all_low (t.c.y *ℤ q.w) q.y (low t.c.y) refl (over t.c.y q.w (pos 1048576) q.y point (most t.c.y near.c.y) h)))

    low_y : q.y <ℤ (negsuc 1048575 *ℤ q.w) → is_pierced t q ≡ false
    low_y h = not_pierced (beside_three q.z t.a.z t.a.y t.b.z t.b.y t.c.z t.c.y false
        (none_low (t.a.y *ℤ q.w) q.y (low t.a.y) refl (under t.a.y q.w (negsuc 1048575) q.y point (least t.a.y near.a.y) h))
        (none_low (t.b.y *ℤ q.w) q.y (low t.b.y) refl (under t.b.y q.w (negsuc 1048575) q.y point (least t.b.y near.b.y) h))
        (none_low (t.c.y *ℤ q.w) q.y (low t.c.y) refl (under t.c.y q.w (negsuc 1048575) q.y point (least t.c.y near.c.y) h)))

-- ---- shells
no_pierced : (ts : List Triangle) (q : Point) → All IsNear ts → ((t : Triangle) → IsNear t → is_pierced t q ≡ false) → pierces_oddly ts q ≡ false
no_pierced [] q near none = refl
no_pierced (t ∷ ts) q near none = ap₂ differ (none t (All-head IsNear t ts near)) (no_pierced ts q (All-tail IsNear t ts near) none)

no_below : (ts : List Triangle) (q : Point) → All IsNear ts → ((t : Triangle) → IsNear t → is_below t q ≡ false) → lies_below_oddly ts q ≡ false
no_below [] q near none = refl
no_below (t ∷ ts) q near none = ap₂ differ (none t (All-head IsNear t ts near)) (no_below ts q (All-tail IsNear t ts near) none)

-- ---- bounded shapes
both_false : (p r : Bool) → p ≡ false → r ≡ false → (p || r) ≡ false
both_false p r e f = λ i. e i || f i

first_false : (p r : Bool) → p ≡ false → (p && r) ≡ false
first_false p r e = ap (λ b. b && r) e

second_false : (p r : Bool) → r ≡ false → (p && r) ≡ false
second_false true r e = e
second_false false r e = refl

left_true : (p r : Bool) → (p && r) ≡ true → p ≡ true
left_true true r e = refl
left_true false r e = absurd (true≢false (sym e))

right_true : (p r : Bool) → (p && r) ≡ true → r ≡ true
right_true true r e = e
right_true false r e = absurd (true≢false (sym e))

some_true : (p r : Bool) → (p || r) ≡ true → (p ≡ true) ⊎ (r ≡ true)
some_true true r e = inl refl
some_true false r e = inr e

abbrev IsOffShape : Shape → Point → Type 0
IsOffShape s q = (k : Plane) → Contains (solid_planes (shape_solid s)) k → value k q ≢ pos 0

pub far_shape : (s : Shape) (q : Point) → IsPoint q → IsOut q → IsOffShape s q → is_bounded (shape_solid s) ≡ true → is_inside (shape_solid s) q ≡ false
far_shape (Triangles shell) q point out off bounded = by out
  where
    by : IsOut q → pierces_oddly (map triangle_of shell.triangles) q ≡ false
    by (out_left h) = ray_law (map triangle_of shell.triangles) q point shell.closed off ∙ no_below (map triangle_of shell.triangles) q shell.near (λ t near. low_x q point t near h)
    by (out_right h) = ray_law (map triangle_of shell.triangles) q point shell.closed off ∙ no_below (map triangle_of shell.triangles) q shell.near (λ t near. high_x q point t near h)
    by (out_front h) = no_pierced (map triangle_of shell.triangles) q shell.near (λ t near. low_y q point t near h)
    by (out_back h) = no_pierced (map triangle_of shell.triangles) q shell.near (λ t near. high_y q point t near h)
    by (out_down h) = no_pierced (map triangle_of shell.triangles) q shell.near (λ t near. low_z q point t near h)
    by (out_up h) = no_pierced (map triangle_of shell.triangles) q shell.near (λ t near. high_z q point t near h)
far_shape (Half plane in_front) q point out off bounded = absurd (true≢false (sym bounded))
far_shape (Joined Union first second) q point out off bounded =
    both_false (is_inside (shape_solid first) q) (is_inside (shape_solid second) q)
    (far_shape first q point out (λ k c. off k (Contains-append_left (solid_planes (shape_solid first)) (solid_planes (shape_solid second)) k c)) (left_true (is_bounded (shape_solid first)) (is_bounded (shape_solid second)) bounded))
    (far_shape second q point out (λ k c. off k (Contains-append_right (solid_planes (shape_solid first)) (solid_planes (shape_solid second)) k c)) (right_true (is_bounded (shape_solid first)) (is_bounded (shape_solid second)) bounded))
far_shape (Joined Intersection first second) q point out off bounded = elim (some_true (is_bounded (shape_solid first)) (is_bounded (shape_solid second)) bounded) [
  | inl e ↦ first_false (is_inside (shape_solid first) q) (is_inside (shape_solid second) q) (far_shape first q point out (λ k c. off k (Contains-append_left (solid_planes (shape_solid first)) (solid_planes (shape_solid second)) k c)) e)
  | inr e ↦ second_false (is_inside (shape_solid first) q) (is_inside (shape_solid second) q) (far_shape second q point out (λ k c. off k (Contains-append_right (solid_planes (shape_solid first)) (solid_planes (shape_solid second)) k c)) e)
]
far_shape (Joined Difference first second) q point out off bounded =
    first_false (is_inside (shape_solid first) q) (not (is_inside (shape_solid second) q))
    (far_shape first q point out (λ k c. off k (Contains-append_left (solid_planes (shape_solid first)) (solid_planes (shape_solid second)) k c)) bounded)
far_shape Nothing q point out off bounded = refl

-- no point with such a coordinate is inside some bounded item
pub far_items : (ns : List GridNode) (q : Point) → IsPoint q → IsOut q → All IsBounded (map solid_of ns) → ((k : Plane) → Contains (flat_map solid_planes (map solid_of ns)) k → value k q ≢ pos 0) → is_inside_some (map solid_of ns) q ≡ false
far_items [] q point out bounded off = refl
far_items (n ∷ ns) q point out bounded off =
    both_false (is_inside (solid_of n) q) (is_inside_some (map solid_of ns) q)
    (far_shape (shape_of n) q point out (λ k c. off k (Contains-append_left (solid_planes (solid_of n)) (flat_map solid_planes (map solid_of ns)) k c)) (All-head IsBounded (solid_of n) (map solid_of ns) bounded))
    (far_items ns q point out (All-tail IsBounded (solid_of n) (map solid_of ns) bounded) (λ k c. off k (Contains-append_right (solid_planes (solid_of n)) (flat_map solid_planes (map solid_of ns)) k c)))
