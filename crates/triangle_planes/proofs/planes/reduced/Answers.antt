use Rattle.std.proofs.Common.{◌≡◌, ◌∙◌, pos, ap, subst, sym, refl, arith}
use Rattle.spec_solid.specs.Triangles.{turn}
use Rattle.spec_solid.specs.Planes.{upright_plane, plane_through}
use Rattle.grid_solid.specs.Triangles.{triangle_of, HasForm}
use Rattle.triangle_planes.specs.Planes.{IsPlane, IsFormOf, LacksForm}
use Rattle.triangle_planes.specs.Sizes.{AreAreas}
use Rattle.triangle_planes.proofs.Sizes.{upright_is, through_is, ab_apart, bc_apart, ca_apart}
use Rattle.triangle_planes.proofs.Laws.{lacks_from, none_fact}
use Rattle.triangle_planes.proofs.planes.reduced.Goals as goal

pub form-requires : goal.form-requires
form-requires c =
    let t = triangle_of c.args.t.now in
    let steep = λ (e : (turn t).z ≡ pos 0). c.requires.steep (ap (λ v. v.z) c.requires.normal ∙ e) in
    record { plane = subst IsPlane (sym c.upright_plane.ensures.value) (upright_is t.a t.b c.requires.near.a c.requires.near.b (ab_apart t steep)) }

pub form-requires-2 : goal.form-requires-2
form-requires-2 c =
    let t = triangle_of c.args.t.now in
    let steep = λ (e : (turn t).z ≡ pos 0). c.requires.steep (ap (λ v. v.z) c.requires.normal ∙ e) in
    record { plane = subst IsPlane (sym c.upright_plane-2.ensures.value) (upright_is t.b t.c c.requires.near.b c.requires.near.c (bc_apart t steep)) }

pub form-requires-3 : goal.form-requires-3
form-requires-3 c =
    let t = triangle_of c.args.t.now in
    let steep = λ (e : (turn t).z ≡ pos 0). c.requires.steep (ap (λ v. v.z) c.requires.normal ∙ e) in
    record { plane = subst IsPlane (sym c.upright_plane-3.ensures.value) (upright_is t.c t.a c.requires.near.c c.requires.near.a (ca_apart t steep)) }

pub form-requires-4 : goal.form-requires-4
form-requires-4 c =
    let t = triangle_of c.args.t.now in
    let steep = λ (e : (turn t).z ≡ pos 0). c.requires.steep (ap (λ v. v.z) c.requires.normal ∙ e) in
    record { plane = subst IsPlane (sym c.plane_through.ensures.value) (through_is t c.requires.near (subst AreAreas c.requires.normal c.requires.small) steep) }

pub returns-in_err-ab-clause-too_large : goal.returns-in_err-ab-clause-too_large
returns-in_err-ab-clause-too_large c =
    let t = triangle_of c.args.t.now in
    let steep = λ (e : (turn t).z ≡ pos 0). c.requires.steep (ap (λ v. v.z) c.requires.normal ∙ e) in
    none_fact c.from_residual.result (LacksForm t) (lacks_from t steep (upright_plane t.a t.b) (1, omega arith, refl) (subst (λ k. HasForm k → ⊥) c.upright_plane.ensures.value c.in_err-ab.ensures.too_large))

pub returns-in_err-bc-clause-too_large : goal.returns-in_err-bc-clause-too_large
returns-in_err-bc-clause-too_large c =
    let t = triangle_of c.args.t.now in
    let steep = λ (e : (turn t).z ≡ pos 0). c.requires.steep (ap (λ v. v.z) c.requires.normal ∙ e) in
    none_fact c.from_residual-in_err-bc.result (LacksForm t) (lacks_from t steep (upright_plane t.b t.c) (2, omega arith, refl) (subst (λ k. HasForm k → ⊥) c.upright_plane-2.ensures.value c.in_err-bc.ensures.too_large))

pub returns-in_err-ca-clause-too_large : goal.returns-in_err-ca-clause-too_large
returns-in_err-ca-clause-too_large c =
    let t = triangle_of c.args.t.now in
    let steep = λ (e : (turn t).z ≡ pos 0). c.requires.steep (ap (λ v. v.z) c.requires.normal ∙ e) in
    none_fact c.from_residual-in_err-ca.result (LacksForm t) (lacks_from t steep (upright_plane t.c t.a) (3, omega arith, refl) (subst (λ k. HasForm k → ⊥) c.upright_plane-3.ensures.value c.in_err-ca.ensures.too_large))

pub returns-in_err-through-clause-too_large : goal.returns-in_err-through-clause-too_large
returns-in_err-through-clause-too_large c =
    let t = triangle_of c.args.t.now in
    let steep = λ (e : (turn t).z ≡ pos 0). c.requires.steep (ap (λ v. v.z) c.requires.normal ∙ e) in
    none_fact c.from_residual-in_err-through.result (LacksForm t) (lacks_from t steep (plane_through t) (0, omega arith, refl) (subst (λ k. HasForm k → ⊥) c.plane_through.ensures.value c.in_err-through.ensures.too_large))

pub returns : goal.returns
returns c =
    let t = triangle_of c.args.t.now in
    let steep = λ (e : (turn t).z ≡ pos 0). c.requires.steep (ap (λ v. v.z) c.requires.normal ∙ e) in
    record {
      reduced = record {
        steep = steep;
        ab = subst (λ k. IsFormOf k c.in_ok-ab.ab) c.upright_plane.ensures.value c.in_ok-ab.ensures.taken;
        bc = subst (λ k. IsFormOf k c.in_ok-bc.bc) c.upright_plane-2.ensures.value c.in_ok-bc.ensures.taken;
        ca = subst (λ k. IsFormOf k c.in_ok-ca.ca) c.upright_plane-3.ensures.value c.in_ok-ca.ensures.taken;
        through = subst (λ k. IsFormOf k c.in_ok-through.through) c.plane_through.ensures.value c.in_ok-through.ensures.taken;
      };
      too_large = tt;
    }
