-- Columns told by the sides of planes, and by planes that are reduced.
use Rattle.std.proofs.Common.{◌≡◌, ℤ, pos, neg_ℤ, unsigned_abs, eqb→eq, T, ◌+ℤ◌, ◌*ℤ◌, ◌-ℤ◌, ◌<ℤ◌, ◌≤ℤ◌, int_lt, Bool, true, false, not, ◌&&◌, if◌then◌else◌, arith, refl, sym, ap, subst, ◌∙◌, ◌∷◌, []}
use Rattle.std.specs.Prelude.{◌≢◌, ◌==◌}
use Rattle.std.proofs.lemmas.Int.{ints}
use Rattle.spec_space.specs.declared.Point.{Point}
use Rattle.spec_space.specs.declared.Plane.{Plane}
use Rattle.spec_space.specs.declared.Vector.{Vector}
use Rattle.spec_space.specs.Points.{value}
use Rattle.spec_solid.specs.Triangles.{Triangle, differ, turn}
use Rattle.spec_space.specs.Reduced.{IsTimes}
use Rattle.spec_solid.specs.Planes.{plane_through, upright_plane}
use Rattle.integer_laws.proofs.Ring.{var, neg, ◌⊕◌, ◌⊗◌, ◌⊖◌, ring}
use Rattle.integer_laws.proofs.Signs.{square_positive}
use Rattle.integer_laws.proofs.Products.{cancel_zero, zero_right, size_zero}
use Rattle.ray_law.proofs.Orders.{sign_scaled, same_test}
use Rattle.ray_law.specs.Columns.{point_at, is_beside, is_in_column, is_under, IsOffWalls, IsMultiple, FormsOf, IsOffForms, is_with, has_sides, same, is_in_front}
use Rattle.ray_law.specs.Shells.{is_covered, is_sided, is_told}
use Rattle.ray_law.proofs.Columns.{one_sign, opposite_sign, under_is, not_opposite, corner_ab, corner_bc, corner_ca}

value_times : (m : ℤ) (h k : Plane) (q : Point) → IsTimes m h k → value k q ≡ m *ℤ value h q
value_times m h k q e =
    (λ i. e.0 i *ℤ q.x +ℤ e.1 i *ℤ q.y +ℤ e.2 i *ℤ q.z -ℤ e.3 i *ℤ q.w)
    ∙ ring (m ∷ (h.a ∷ (h.b ∷ (h.c ∷ (h.d ∷ (q.x ∷ (q.y ∷ (q.z ∷ (q.w ∷ [])))))))))
    ((var 0 ⊗ var 1) ⊗ var 5 ⊕ (var 0 ⊗ var 2) ⊗ var 6 ⊕ (var 0 ⊗ var 3) ⊗ var 7 ⊖ (var 0 ⊗ var 4) ⊗ var 8)
    (var 0 ⊗ (var 1 ⊗ var 5 ⊕ var 2 ⊗ var 6 ⊕ var 3 ⊗ var 7 ⊖ var 4 ⊗ var 8)) refl

-- a point off a plane is off its multiples, and the other way round
pub off_multiple : (h k : Plane) (q : Point) → IsMultiple h k → value h q ≢ pos 0 → value k q ≢ pos 0
off_multiple h k q e off z = off (cancel_zero e.0 (value h q) e.1 (sym (value_times e.0 h k q e.2) ∙ z))

pub off_part : (h k : Plane) (q : Point) → IsMultiple h k → value k q ≢ pos 0 → value h q ≢ pos 0
off_part h k q e off z = off (value_times e.0 h k q e.2 ∙ zero_right e.0 (value h q) z)

-- ---- columns and multiples
squared : (m u v : ℤ) → (m *ℤ u) *ℤ (m *ℤ v) ≡ (m *ℤ m) *ℤ (u *ℤ v)
squared m u v = ring (m ∷ (u ∷ (v ∷ []))) ((var 0 ⊗ var 1) ⊗ (var 0 ⊗ var 2)) ((var 0 ⊗ var 0) ⊗ (var 1 ⊗ var 2)) refl

above_is : (k : ℤ) → int_lt (pos 0) k ≡ int_lt (neg_ℤ k) (pos 0)
above_is k = same_test (pos 0) k (neg_ℤ k) (pos 0) (λ h. turned k h) (λ h. kept k h)
  where
    turned : (k : ℤ) → pos 0 <ℤ k → neg_ℤ k <ℤ pos 0
    turned k h = omega (arith, ints)

    kept : (k : ℤ) → k ≤ℤ pos 0 → pos 0 ≤ℤ neg_ℤ k
    kept k h = omega (arith, ints)

above_scaled : (p r : ℤ) → pos 0 <ℤ p → int_lt (pos 0) (p *ℤ r) ≡ int_lt (pos 0) r
above_scaled p r h =
    above_is (p *ℤ r)
    ∙ ap (λ k. int_lt k (pos 0)) (ring (p ∷ (r ∷ [])) (neg (var 0 ⊗ var 1)) (var 0 ⊗ neg (var 1)) refl)
    ∙ sign_scaled p (neg_ℤ r) h
    ∙ sym (above_is r)

pub beside_multiple : (h k : Plane) (corner : Vector) (q : Point) → IsMultiple h k → is_beside k corner q ≡ is_beside h corner q
beside_multiple h k corner q e =
    (λ i. int_lt (pos 0) (value_times e.0 h k (point_at corner) e.2 i *ℤ value_times e.0 h k q e.2 i))
    ∙ ap (λ v. int_lt (pos 0) v) (squared e.0 (value h (point_at corner)) (value h q))
    ∙ above_scaled (e.0 *ℤ e.0) (value h (point_at corner) *ℤ value h q) (square_positive e.0 e.1)

pub under_multiple : (h k : Plane) (q : Point) → IsMultiple h k → k.c ≢ pos 0 → is_under k q ≡ is_under h q
under_multiple h k q e some =
    under_is k q some
    ∙ (λ i. int_lt (e.2.2 i *ℤ value_times e.0 h k q e.2 i) (pos 0))
    ∙ ap (λ v. int_lt v (pos 0)) (squared e.0 h.c (value h q))
    ∙ sign_scaled (e.0 *ℤ e.0) (h.c *ℤ value h q) (square_positive e.0 e.1)
    ∙ sym (under_is h q (λ z. some (e.2.2 ∙ zero_right e.0 h.c z)))

-- a triangle that is not upright covers a point, told by forms of its planes
pub covered_by_forms : (t : Triangle) (forms : FormsOf t) (q : Point) → (turn t).z ≢ pos 0 → is_covered t q ≡ ((is_beside forms.ab t.c q && (is_beside forms.bc t.a q && is_beside forms.ca t.b q)) && is_under forms.through q)
covered_by_forms t forms q some =
    by (unsigned_abs (turn t).z == 0) refl
    ∙ (λ i. (beside_multiple forms.ab (upright_plane t.a t.b) t.c q forms.ab_of i
    && (beside_multiple forms.bc (upright_plane t.b t.c) t.a q forms.bc_of i
    && beside_multiple forms.ca (upright_plane t.c t.a) t.b q forms.ca_of i))
    && under_multiple forms.through (plane_through t) q forms.through_of some i)
  where
    by : (s : Bool) → (unsigned_abs (turn t).z == 0) ≡ s → (if s then false else is_in_column t q && is_under (plane_through t) q) ≡ (is_in_column t q && is_under (plane_through t) q)
    by true e = absurd (some (size_zero (turn t).z (eqb→eq (unsigned_abs (turn t).z) 0 (subst T (sym e) tt))))
    by false e = refl

-- ---- told by sides
pub not_below : (v : ℤ) → v ≢ pos 0 → int_lt (pos 0) v ≡ not (int_lt v (pos 0))
not_below v some = above_is v ∙ opposite_sign v some

same_not : (s t : Bool) → same s t ≡ same (not s) (not t)
same_not true true = refl
same_not true false = refl
same_not false true = refl
same_not false false = refl

not_not : (s : Bool) → s ≡ not (not s)
not_not true = refl
not_not false = refl

-- the point lies in front of the plane where the corner does, and behind it where the corner does
pub beside_is : (h : Plane) (corner : Vector) (q : Point) → value h (point_at corner) ≢ pos 0 → value h q ≢ pos 0 → is_beside h corner q ≡ same (int_lt (pos 0) (value h (point_at corner))) (int_lt (pos 0) (value h q))
beside_is h corner q some off =
    one_sign (value h (point_at corner)) (value h q) some off
    ∙ same_not (int_lt (value h (point_at corner)) (pos 0)) (int_lt (value h q) (pos 0))
    ∙ sym (λ i. same (not_below (value h (point_at corner)) some i) (not_below (value h q) off i))

-- below a plane is behind it or in front of it, as its z part is above 0 or not
pub under_side : (h : Plane) (q : Point) → value h q ≢ pos 0 → is_under h q ≡ differ (int_lt (pos 0) h.c) (int_lt (pos 0) (value h q))
under_side h q off = by (int_lt (pos 0) h.c)
  where
    by : (s : Bool) → (if s then int_lt (value h q) (pos 0) else int_lt (pos 0) (value h q)) ≡ differ s (int_lt (pos 0) (value h q))
    by true = not_not (int_lt (value h q) (pos 0)) ∙ sym (ap not (not_below (value h q) off))
    by false = refl

-- the sides of the third corner, and of what is below the plane
wall_side : (k : Plane) (corner : Vector) (n : ℤ) (q : Point) → value k (point_at corner) ≡ neg_ℤ n → n ≢ pos 0 → value k q ≢ pos 0 → is_beside k corner q ≡ same (int_lt n (pos 0)) (int_lt (pos 0) (value k q))
wall_side k corner n q e some off =
    beside_is k corner q (λ z. not_opposite n some (sym e ∙ z)) off
    ∙ ap (λ s. same s (int_lt (pos 0) (value k q))) (ap (λ v. int_lt (pos 0) v) e ∙ above_is (neg_ℤ n) ∙ ap (λ v. int_lt v (pos 0)) (ring (n ∷ []) (neg (neg (var 0))) (var 0) refl))

differ_not : (s t : Bool) → differ (not s) t ≡ same s t
differ_not true t = refl
differ_not false t = refl

-- off its planes a triangle that is not upright covers a point where all its planes have it on one side, that of the points below
pub told_is : (t : Triangle) (q : Point) → (turn t).z ≢ pos 0 → value (plane_through t) q ≢ pos 0 → IsOffWalls t q → is_covered t q ≡ is_told (is_in_front q) t
told_is t q some off walls = by (unsigned_abs (turn t).z == 0)
  where
    by : (s : Bool) → (if s then false else is_in_column t q && is_under (plane_through t) q)
        ≡ (if s then false else (is_sided (is_in_front q) t (upright_plane t.a t.b) && (is_sided (is_in_front q) t (upright_plane t.b t.c) && is_sided (is_in_front q) t (upright_plane t.c t.a)))
        && is_sided (is_in_front q) t (plane_through t))
    by true = refl
    by false = λ i.
        (wall_side (upright_plane t.a t.b) t.c (turn t).z q (corner_ab t) some walls.ab i
        && (wall_side (upright_plane t.b t.c) t.a (turn t).z q (corner_bc t) some walls.bc i
        && wall_side (upright_plane t.c t.a) t.b (turn t).z q (corner_ca t) some walls.ca i))
        && (under_side (plane_through t) q off ∙ ap (λ s. differ s (is_in_front q (plane_through t))) (not_below (turn t).z some) ∙ differ_not (int_lt (turn t).z (pos 0)) (is_in_front q (plane_through t))) i

-- a multiple of a plane has a point in front where the plane has, or where it has not, as the factor is above 0 or below
pub front_multiple : (h k : Plane) (q : Point) (e : IsMultiple h k) → value h q ≢ pos 0 → is_in_front q k ≡ same (int_lt (pos 0) e.0) (is_in_front q h)
front_multiple h k q e off =
    ap (λ v. int_lt (pos 0) v) (value_times e.0 h k q e.2)
    ∙ one_sign e.0 (value h q) e.1 off
    ∙ same_not (int_lt e.0 (pos 0)) (int_lt (value h q) (pos 0))
    ∙ sym (λ i. same (not_below e.0 e.1 i) (not_below (value h q) off i))

-- and off these forms it covers the point where the point is on their four sides
pub covered_by_sides : (t : Triangle) (forms : FormsOf t) (q : Point) → (turn t).z ≢ pos 0 → IsOffForms t forms q → is_covered t q ≡ has_sides t forms q
covered_by_sides t forms q some off =
    covered_by_forms t forms q some
    ∙ (λ i. (with_corner forms.ab (upright_plane t.a t.b) t.c forms.ab_of (corner_ab t) off.ab i
    && (with_corner forms.bc (upright_plane t.b t.c) t.a forms.bc_of (corner_bc t) off.bc i
    && with_corner forms.ca (upright_plane t.c t.a) t.b forms.ca_of (corner_ca t) off.ca i))
    && below i)
  where
    with_corner : (h k : Plane) (corner : Vector) → IsMultiple h k → value k (point_at corner) ≡ neg_ℤ (turn t).z → value h q ≢ pos 0 → is_beside h corner q ≡ is_with h corner q
    with_corner h k corner e f off = beside_is h corner q (off_part h k (point_at corner) e (λ z. not_opposite (turn t).z some (sym f ∙ z))) off

    steep : forms.through.c ≢ pos 0
    steep z = some (forms.through_of.2.2 ∙ zero_right forms.through_of.0 forms.through.c z)

    below : is_under forms.through q ≡ same (int_lt forms.through.c (pos 0)) (is_in_front q forms.through)
    below =
        under_side forms.through q off.through
        ∙ ap (λ s. differ s (is_in_front q forms.through)) (not_below forms.through.c steep)
        ∙ differ_not (int_lt forms.through.c (pos 0)) (is_in_front q forms.through)
