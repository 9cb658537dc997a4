-- Laws of the planes of triangles for the crates above.
use Rattle.std.proofs.Common.{◌≡◌, ◌≢◌, ℕ, zero, suc, ◌<◌, pos, Bool, true, false, List, [], ◌∷◌, unsigned_abs, refl, sym, ap, subst, ◌∙◌, arith, eqb→eq, T, true≢false}
use Rattle.std.specs.Prelude.{◌==◌, if◌then◌else◌, Option, Some, None, IfNone}
use Rattle.std.specs.List.{All, Contains}
use Rattle.std.proofs.lemmas.List.Elements.{All-nil, All-cons, All-contains}
use Rattle.std.proofs.lemmas.Grind.{merely}
use Rattle.integer_laws.proofs.Products.{size_zero}
use Rattle.spec_space.specs.declared.Plane.{Plane}
use Rattle.spec_solid.specs.Triangles.{Triangle, turn}
use Rattle.spec_solid.specs.Planes.{plane_through, upright_plane, triangle_planes}
use Rattle.grid_solid.specs.Triangles.{HasForm, HasForms}
use Rattle.triangle_planes.specs.declared.forms.TriangleForms.{TriangleForms}
use Rattle.triangle_planes.specs.Planes.{IsFormOf, AreReduced}

-- the planes of a triangle that is upright, and of one that is not
pub planes_upright : (t : Triangle) → (turn t).z ≡ pos 0 → triangle_planes t ≡ []
planes_upright t e = ap (λ n. if n == 0 then [] else (plane_through t ∷ upright_plane t.a t.b ∷ upright_plane t.b t.c ∷ upright_plane t.c t.a ∷ [])) (ap unsigned_abs e)

pub planes_steep : (t : Triangle) → (turn t).z ≢ pos 0 → triangle_planes t ≡ plane_through t ∷ upright_plane t.a t.b ∷ upright_plane t.b t.c ∷ upright_plane t.c t.a ∷ []
planes_steep t steep = by (unsigned_abs (turn t).z == 0) refl
  where
    by : (b : Bool) → (unsigned_abs (turn t).z == 0) ≡ b
        → (if b then [] else (plane_through t ∷ upright_plane t.a t.b ∷ upright_plane t.b t.c ∷ upright_plane t.c t.a ∷ [])) ≡ plane_through t ∷ upright_plane t.a t.b ∷ upright_plane t.b t.c ∷ upright_plane t.c t.a ∷ []
    by true e = absurd (steep (size_zero (turn t).z (eqb→eq (unsigned_abs (turn t).z) 0 (subst T (sym e) tt))))
    by false e = refl

-- each of them has a form
pub upright_has_forms : (t : Triangle) → (turn t).z ≡ pos 0 → HasForms t
upright_has_forms t e = subst (All HasForm) (sym (planes_upright t e)) (All-nil HasForm)

pub reduced_has_forms : (t : Triangle) (forms : TriangleForms) → AreReduced t forms → HasForms t
reduced_has_forms t forms is =
    subst (All HasForm) (sym (planes_steep t is.steep))
    (All-cons HasForm (plane_through t) (upright_plane t.a t.b ∷ upright_plane t.b t.c ∷ upright_plane t.c t.a ∷ []) (merely (forms.through, is.through))
    (All-cons HasForm (upright_plane t.a t.b) (upright_plane t.b t.c ∷ upright_plane t.c t.a ∷ []) (merely (forms.ab, is.ab))
    (All-cons HasForm (upright_plane t.b t.c) (upright_plane t.c t.a ∷ []) (merely (forms.bc, is.bc))
    (All-cons HasForm (upright_plane t.c t.a) [] (merely (forms.ca, is.ca)) (All-nil HasForm)))))

pub lacks_from : (t : Triangle) → (turn t).z ≢ pos 0 → (k : Plane) → Contains (plane_through t ∷ upright_plane t.a t.b ∷ upright_plane t.b t.c ∷ upright_plane t.c t.a ∷ []) k → (HasForm k → ⊥) → HasForms t → ⊥
lacks_from t steep k there none all = none (All-contains HasForm (plane_through t ∷ upright_plane t.a t.b ∷ upright_plane t.b t.c ∷ upright_plane t.c t.a ∷ []) k (subst (All HasForm) (planes_steep t steep) all) there)

-- a fact holds where there is no value
pub none_fact : {X : Type 0} (o : Option X) (P : Type 0) → P → IfNone o P
none_fact None P p = p
none_fact (Some x) P p = tt
