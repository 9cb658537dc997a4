-- A triangle fits where each of its planes has a reduced form within the sizes of planes.
use Rattle.std.proofs.Common.{◌≡◌, ◌≢◌, ℤ, pos, neg_ℤ, ◌-ℤ◌, ◌<ℤ◌, Bool, true, false, ◌&&◌, [], ◌∷◌, inl, inr, refl, sym, ap, ◌∙◌, subst, arith}
use Rattle.std.specs.List.{list_all, All}
use Rattle.std.proofs.lemmas.Int.{ints}
use Rattle.std.proofs.lemmas.List.Elements.{All-nil, All-cons}
use Rattle.std.proofs.lemmas.Grind.{merely}
use Rattle.integer_laws.proofs.Cancel.{sign_cases}
use Rattle.spec_space.specs.declared.Plane.{Plane}
use Rattle.spec_space.specs.declared.Vector.{Vector}
use Rattle.spec_solid.specs.Triangles.{Triangle, turn}
use Rattle.spec_solid.specs.Planes.{plane_through, upright_plane}
use Rattle.spec_grid.specs.Forms.{is_fitting}
use Rattle.spec_grid.specs.Rounded.{is_triangle_fitting}
use Rattle.grid_forms.proofs.Forms.{HasNormal, form_fits, fitting_form}
use Rattle.grid_solid.specs.Triangles.{HasForm, HasForms}
use Rattle.triangle_planes.specs.declared.forms.TriangleForms.{TriangleForms}
use Rattle.triangle_planes.specs.Planes.{AreReduced, LacksForm}
use Rattle.triangle_planes.proofs.Laws.{planes_upright, planes_steep}
use Rattle.triangle_planes.proofs.Sizes.{ab_apart, bc_apart, ca_apart}
use Rattle.grid_round.proofs.Lists.{first_true, second_true}

both : (p q : Bool) → p ≡ true → q ≡ true → (p && q) ≡ true
both p q e f = ap (λ b. b && q) e ∙ f

all_four : (h k l m : Plane) → is_fitting h ≡ true → is_fitting k ≡ true → is_fitting l ≡ true → is_fitting m ≡ true → list_all is_fitting (h ∷ k ∷ l ∷ m ∷ []) ≡ true
all_four h k l m a b c d = both _ _ a (both _ _ b (both _ _ c (both _ _ d refl)))

-- ---- the triangle fits
pub upright_fits : (t : Triangle) → (turn t).z ≡ pos 0 → is_triangle_fitting t ≡ true
upright_fits t e = ap (list_all is_fitting) (planes_upright t e)

pub reduced_fits : (t : Triangle) (forms : TriangleForms) → AreReduced t forms → is_triangle_fitting t ≡ true
reduced_fits t forms is =
    ap (list_all is_fitting) (planes_steep t is.steep)
    ∙ all_four (plane_through t) (upright_plane t.a t.b) (upright_plane t.b t.c) (upright_plane t.c t.a)
    (form_fits (plane_through t) forms.through is.through) (form_fits (upright_plane t.a t.b) forms.ab is.ab) (form_fits (upright_plane t.b t.c) forms.bc is.bc) (form_fits (upright_plane t.c t.a) forms.ca is.ca)

-- ---- a triangle that fits has its forms
has_form : (k : Plane) → HasNormal k → is_fitting k ≡ true → HasForm k
has_form k some e = merely (fitting_form k some e)

four_forms : (h k l m : Plane) → HasNormal h → HasNormal k → HasNormal l → HasNormal m → list_all is_fitting (h ∷ k ∷ l ∷ m ∷ []) ≡ true → All HasForm (h ∷ k ∷ l ∷ m ∷ [])
four_forms h k l m a b c d e =
    let second = second_true (is_fitting h) _ e in
    let third = second_true (is_fitting k) _ second in
    let fourth = second_true (is_fitting l) _ third in
    All-cons HasForm h (k ∷ l ∷ m ∷ []) (has_form h a (first_true (is_fitting h) _ e))
    (All-cons HasForm k (l ∷ m ∷ []) (has_form k b (first_true (is_fitting k) _ second))
    (All-cons HasForm l (m ∷ []) (has_form l c (first_true (is_fitting l) _ third))
    (All-cons HasForm m [] (has_form m d (first_true (is_fitting m) _ fourth)) (All-nil HasForm))))

upright_normal : (u v : Vector) → ((v.y -ℤ u.y ≡ pos 0) × (v.x -ℤ u.x ≡ pos 0) → ⊥) → HasNormal (upright_plane u v)
upright_normal u v apart e = apart (e.0, turned (v.x -ℤ u.x) e.1)
  where
    turned : (a : ℤ) → neg_ℤ a ≡ pos 0 → a ≡ pos 0
    turned a e = omega (arith, ints)

steep_forms : (t : Triangle) → (turn t).z ≢ pos 0 → is_triangle_fitting t ≡ true → HasForms t
steep_forms t steep e =
    subst (All HasForm) (sym (planes_steep t steep))
    (four_forms (plane_through t) (upright_plane t.a t.b) (upright_plane t.b t.c) (upright_plane t.c t.a)
    (λ z. steep z.2) (upright_normal t.a t.b (ab_apart t steep)) (upright_normal t.b t.c (bc_apart t steep)) (upright_normal t.c t.a (ca_apart t steep))
    (subst (λ ks. list_all is_fitting ks ≡ true) (planes_steep t steep) e))

pub fitting_has_forms : (t : Triangle) → is_triangle_fitting t ≡ true → HasForms t
fitting_has_forms t e = elim (sign_cases (turn t).z) [
  | inl n ↦ steep_forms t (below (turn t).z n) e
  | inr (inl z) ↦ subst (All HasForm) (sym (planes_upright t z)) (All-nil HasForm)
  | inr (inr p) ↦ steep_forms t (above (turn t).z p) e
]
  where
    below : (a : ℤ) → a <ℤ pos 0 → a ≢ pos 0
    below a h z = omega (arith, ints)

    above : (a : ℤ) → pos 0 <ℤ a → a ≢ pos 0
    above a h z = omega (arith, ints)

not_true : (b : Bool) → (b ≡ true → ⊥) → b ≡ false
not_true true h = absurd (h refl)
not_true false h = refl

pub lacking_fits_not : (t : Triangle) → LacksForm t → is_triangle_fitting t ≡ false
lacking_fits_not t lacks = not_true (is_triangle_fitting t) (λ e. lacks (fitting_has_forms t e))
