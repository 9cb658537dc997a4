-- The region of the four sides below a triangle.
use Rattle.std.proofs.Common.{◌≡◌, ◌≢◌, ℕ, zero, suc, ◌<◌, ℤ, pos, negsuc, neg_ℤ, ◌*ℤ◌, ◌+ℤ◌, ◌-ℤ◌, ◌<ℤ◌, int_lt, Bool, true, false, not, ◌&&◌, List, [], ◌∷◌, slice_get, Some, refl, sym, ap, subst, ◌∙◌, arith}
use Rattle.std.specs.List.{Contains}
use Rattle.std.proofs.lemmas.Int.{ints}
use Rattle.spec_space.specs.declared.Point.{Point}
use Rattle.spec_space.specs.declared.Plane.{Plane}
use Rattle.spec_space.specs.Points.{value, opposite}
use Rattle.spec_space.specs.Reduced.{IsTimes}
use Rattle.spec_solid.specs.Triangles.{Triangle, turn}
use Rattle.spec_solid.specs.Planes.{plane_through, upright_plane, triangle_planes}
use Rattle.integer_laws.proofs.Ring.{var, ◌⊕◌, ◌⊗◌, ◌⊖◌, ring}
use Rattle.integer_laws.proofs.Products.{zero_right}
use Rattle.ray_law.specs.Columns.{FormsOf, IsOffForms, IsMultiple, is_with, has_sides, same, point_at}
use Rattle.ray_law.specs.Columns.{is_in_front as is_before}
use Rattle.ray_law.specs.Shells.{is_covered}
use Rattle.ray_law.proofs.Sides.{covered_by_sides, not_below}
use Rattle.convex_cycles.specs.Sides.{is_in_front}
use Rattle.plane_core.specs.declared.numbers.Plane.{Plane as BookPlane}
use Rattle.plane_core.specs.Views.{plane_of}
use Rattle.plane_core.specs.Planes.{IsReductionOf}
use Rattle.poly_frag.specs.Frags.{numbered, kept_side, plane_at}
use Rattle.poly_frag.proofs.Kept.{value_opposite}
use Rattle.plane_cells.specs.Cells.{step_side}
use Rattle.plane_cells.specs.declared.steps.Step.{Step}
use Rattle.parity_trees.specs.declared.regions.Region.{Region}
use Rattle.parity_trees.specs.Regions.{is_on_all}
use Rattle.triangle_planes.specs.declared.forms.TriangleForms.{TriangleForms}
use Rattle.triangle_planes.specs.Planes.{IsFormOf, AreReduced}
use Rattle.triangle_planes.proofs.Laws.{planes_steep}
use Rattle.triangle_trees.specs.Forms.{IsGrown, IsSideOf, AreSidesBelow, HasFormOf, IsOffAll, IsRegionBelow}
use Rattle.triangle_trees.proofs.Grown.{side_kept}

-- ---- a plane and its reduced form
pub value_of_times : (m : ℤ) (h k : Plane) (q : Point) → IsTimes m h k → value k q ≡ m *ℤ value h q
value_of_times m h k q e =
    (λ i. e.0 i *ℤ q.x +ℤ e.1 i *ℤ q.y +ℤ e.2 i *ℤ q.z -ℤ e.3 i *ℤ q.w)
    ∙ ring (m ∷ (h.a ∷ (h.b ∷ (h.c ∷ (h.d ∷ (q.x ∷ (q.y ∷ (q.z ∷ (q.w ∷ [])))))))))
    (var 0 ⊗ var 1 ⊗ var 5 ⊕ var 0 ⊗ var 2 ⊗ var 6 ⊕ var 0 ⊗ var 3 ⊗ var 7 ⊖ var 0 ⊗ var 4 ⊗ var 8)
    (var 0 ⊗ (var 1 ⊗ var 5 ⊕ var 2 ⊗ var 6 ⊕ var 3 ⊗ var 7 ⊖ var 4 ⊗ var 8)) refl

-- a point off a plane is off its reduced form
pub off_form : (k : Plane) (p : BookPlane) (q : Point) → IsFormOf k p → value k q ≢ pos 0 → value (plane_of p) q ≢ pos 0
off_form k p q r off z = off (value_of_times r.factor (plane_of p) k q r.times ∙ zero_right r.factor (value (plane_of p) q) z)

multiple_of : (k : Plane) (p : BookPlane) → IsFormOf k p → IsMultiple (plane_of p) k
multiple_of k p r = (r.factor, r.some, r.times)

-- ---- the flag of a side
turned_flag : (v : ℤ) → v ≢ pos 0 → int_lt (pos 0) (neg_ℤ v) ≡ not (int_lt (pos 0) v)
turned_flag v off = below_turned v ∙ not_twice (int_lt v (pos 0)) ∙ ap not (sym (not_below v off))
  where
    not_twice : (b : Bool) → b ≡ not (not b)
    not_twice true = refl
    not_twice false = refl

    below_turned : (v : ℤ) → int_lt (pos 0) (neg_ℤ v) ≡ int_lt v (pos 0)
    below_turned v = by (int_lt (pos 0) (neg_ℤ v)) (int_lt v (pos 0)) refl refl
      where
        by : (b d : Bool) → int_lt (pos 0) (neg_ℤ v) ≡ b → int_lt v (pos 0) ≡ d → b ≡ d
        by true true e f = refl
        by true false e f = absurd (omega (arith, ints))
        by false true e f = absurd (omega (arith, ints))
        by false false e f = refl

kept_flag : (f : Bool) (h : Plane) (q : Point) → value h q ≢ pos 0 → is_in_front (kept_side f h) q ≡ same f (is_before q h)
kept_flag true h q off = refl
kept_flag false h q off = ap (int_lt (pos 0)) (value_opposite h q) ∙ turned_flag (value h q) off

side_flag : (planes : List BookPlane) (p : BookPlane) (f : Bool) (s : Step) (q : Point) → IsSideOf planes p f s → value (plane_of p) q ≢ pos 0 → is_in_front (step_side planes s) q ≡ same f (is_before q (plane_of p))
side_flag planes p f s q is off =
    (λ i. is_in_front (kept_side (is.side i) (numbered (is.number i))) q)
    ∙ kept_flag f (plane_of p) q off

order : (a b c d : Bool) → (a && (b && (c && (d && true)))) ≡ ((a && (b && c)) && d)
order true true true true = refl
order true true true false = refl
order true true false d = refl
order true false c d = refl
order false b c d = refl

-- ---- the four planes of a triangle that is not upright
module _ (planes : List BookPlane) (t : Triangle) (forms : TriangleForms) (is : AreReduced t forms) where
  abbrev four : List Plane
  four = plane_through t ∷ upright_plane t.a t.b ∷ upright_plane t.b t.c ∷ upright_plane t.c t.a ∷ []

  listed : (k : Plane) → Contains four k → Contains (triangle_planes t) k
  listed k c = subst (λ ks. Contains ks k) (sym (planes_steep t is.steep)) c

  through_in : Contains (triangle_planes t) (plane_through t)
  through_in = listed (plane_through t) (0, omega arith, refl)

  ab_in : Contains (triangle_planes t) (upright_plane t.a t.b)
  ab_in = listed (upright_plane t.a t.b) (1, omega arith, refl)

  bc_in : Contains (triangle_planes t) (upright_plane t.b t.c)
  bc_in = listed (upright_plane t.b t.c) (2, omega arith, refl)

  ca_in : Contains (triangle_planes t) (upright_plane t.c t.a)
  ca_in = listed (upright_plane t.c t.a) (3, omega arith, refl)

  abbrev law_forms : FormsOf t
  law_forms = record {
    ab = plane_of forms.ab;
    bc = plane_of forms.bc;
    ca = plane_of forms.ca;
    through = plane_of forms.through;
    ab_of = multiple_of (upright_plane t.a t.b) forms.ab is.ab;
    bc_of = multiple_of (upright_plane t.b t.c) forms.bc is.bc;
    ca_of = multiple_of (upright_plane t.c t.a) forms.ca is.ca;
    through_of = multiple_of (plane_through t) forms.through is.through;
  }

  module _ (sides : List Step) (below : AreSidesBelow planes t forms sides) where
    covers : (q : Point) → IsOffAll (triangle_planes t) q → is_on_all planes sides q ≡ is_covered t q
    covers q off =
        let ab = off_form (upright_plane t.a t.b) forms.ab q is.ab (off (upright_plane t.a t.b) ab_in) in
        let bc = off_form (upright_plane t.b t.c) forms.bc q is.bc (off (upright_plane t.b t.c) bc_in) in
        let ca = off_form (upright_plane t.c t.a) forms.ca q is.ca (off (upright_plane t.c t.a) ca_in) in
        let through = off_form (plane_through t) forms.through q is.through (off (plane_through t) through_in) in
        ap (λ s. is_on_all planes s q) below.are
        ∙ (λ i. side_flag planes forms.ab (is_before (point_at t.c) (plane_of forms.ab)) below.ab q below.ab_side ab i
        && (side_flag planes forms.bc (is_before (point_at t.a) (plane_of forms.bc)) below.bc q below.bc_side bc i
        && (side_flag planes forms.ca (is_before (point_at t.b) (plane_of forms.ca)) below.ca q below.ca_side ca i
        && (side_flag planes forms.through (int_lt forms.through.c (pos 0)) below.through q below.through_side through i && true))))
        ∙ order (is_with (plane_of forms.ab) t.c q) (is_with (plane_of forms.bc) t.a q) (is_with (plane_of forms.ca) t.b q) (same (int_lt forms.through.c (pos 0)) (is_before q (plane_of forms.through)))
        ∙ sym (covered_by_sides t law_forms q is.steep (record { ab = ab; bc = bc; ca = ca; through = through }))

    has_form : (k : Plane) (p : BookPlane) (f : Bool) (s : Step) → Contains (triangle_planes t) k → IsFormOf k p → IsSideOf planes p f s → HasFormOf planes (triangle_planes t) s.plane.k
    has_form k p f s there form side = (p, k, side.number, there, form)

    forms_of_four : (s : Step) → Contains (below.ab ∷ below.bc ∷ below.ca ∷ below.through ∷ []) s → HasFormOf planes (triangle_planes t) s.plane.k
    forms_of_four s (zero, h, e) = subst (λ s. HasFormOf planes (triangle_planes t) s.plane.k) e (has_form (upright_plane t.a t.b) forms.ab _ below.ab ab_in is.ab below.ab_side)
    forms_of_four s (suc zero, h, e) = subst (λ s. HasFormOf planes (triangle_planes t) s.plane.k) e (has_form (upright_plane t.b t.c) forms.bc _ below.bc bc_in is.bc below.bc_side)
    forms_of_four s (suc (suc zero), h, e) = subst (λ s. HasFormOf planes (triangle_planes t) s.plane.k) e (has_form (upright_plane t.c t.a) forms.ca _ below.ca ca_in is.ca below.ca_side)
    forms_of_four s (suc (suc (suc zero)), h, e) = subst (λ s. HasFormOf planes (triangle_planes t) s.plane.k) e (has_form (plane_through t) forms.through _ below.through through_in is.through below.through_side)
    forms_of_four s (suc (suc (suc (suc n))), h, e) = absurd (omega arith)

    -- the region of these sides is what lies below the triangle
    pub region_below : (r : Region) → r.sides.items ≡ sides → IsRegionBelow planes t r
    region_below r e = record {
      covers = λ q off. ap (λ s. is_on_all planes s q) e ∙ covers q off;
      forms = λ s c. forms_of_four s (subst (λ ss. Contains ss s) (e ∙ below.are) c);
    }

-- the four sides, each added to the book after the one before
pub sides_are : (a b c d : List BookPlane) (t : Triangle) (forms : TriangleForms) (ab bc ca through : Step) (sides : List Step) → sides ≡ ab ∷ bc ∷ ca ∷ through ∷ []
    → IsGrown 1 a b → IsGrown 1 b c → IsGrown 1 c d
    → IsSideOf a forms.ab (is_before (point_at t.c) (plane_of forms.ab)) ab → IsSideOf b forms.bc (is_before (point_at t.a) (plane_of forms.bc)) bc
    → IsSideOf c forms.ca (is_before (point_at t.b) (plane_of forms.ca)) ca → IsSideOf d forms.through (int_lt forms.through.c (pos 0)) through
    → AreSidesBelow d t forms sides
sides_are a b c d t forms ab bc ca through sides are p q r s u v w = record {
  ab = ab;
  bc = bc;
  ca = ca;
  through = through;
  are = are;
  ab_side = side_kept 1 c d r forms.ab (is_before (point_at t.c) (plane_of forms.ab)) ab (side_kept 1 b c q forms.ab (is_before (point_at t.c) (plane_of forms.ab)) ab (side_kept 1 a b p forms.ab (is_before (point_at t.c) (plane_of forms.ab)) ab s));
  bc_side = side_kept 1 c d r forms.bc (is_before (point_at t.a) (plane_of forms.bc)) bc (side_kept 1 b c q forms.bc (is_before (point_at t.a) (plane_of forms.bc)) bc u);
  ca_side = side_kept 1 c d r forms.ca (is_before (point_at t.b) (plane_of forms.ca)) ca v;
  through_side = w;
}
