-- The reduced forms of the planes of a triangle.
use Rattle.std.specs.Prelude.{◌≡◌, ◌^◌, ◌≤◌, pos, unsigned_abs}
use Rattle.spec_space.specs.declared.Plane.{Plane}
use Rattle.spec_solid.specs.Triangles.{Triangle, turn}
use Rattle.spec_solid.specs.Planes.{plane_through, upright_plane}
use Rattle.plane_core.specs.declared.numbers.Plane.{Plane as BookPlane}
use Rattle.plane_core.specs.Planes.{IsReductionOf}
use Rattle.grid_solid.specs.Triangles.{HasForms}
use Rattle.triangle_planes.specs.declared.forms.TriangleForms.{TriangleForms}
use Rattle.triangle_planes.specs.declared.forms.Forms.{Forms}
use Rattle.triangle_planes.specs.declared.forms.Forms.TheVariants.{Upright, TooLarge, Reduced}

-- four numbers that a reduction takes: with sizes of at most 2^70, the first three not all 0
pub record IsPlane (k : Plane) : Type 0 where
  pub a : unsigned_abs k.a ≤ 2 ^ 70
  pub b : unsigned_abs k.b ≤ 2 ^ 70
  pub c : unsigned_abs k.c ≤ 2 ^ 70
  pub d : unsigned_abs k.d ≤ 2 ^ 70
  pub some : (k.a ≡ pos 0) × (k.b ≡ pos 0) × (k.c ≡ pos 0) → ⊥

abbrev pub IsFormOf : Plane → BookPlane → Type 0
IsFormOf k p = IsReductionOf p k.a k.b k.c k.d

-- the triangle is not upright, and these are the reduced forms of its planes
pub record AreReduced (t : Triangle) (forms : TriangleForms) : Type 0 where
  pub steep : (turn t).z ≡ pos 0 → ⊥
  pub ab : IsFormOf (upright_plane t.a t.b) forms.ab
  pub bc : IsFormOf (upright_plane t.b t.c) forms.bc
  pub ca : IsFormOf (upright_plane t.c t.a) forms.ca
  pub through : IsFormOf (plane_through t) forms.through

-- some plane of the triangle has no reduced form within the sizes of planes
abbrev pub LacksForm : Triangle → Type 0
LacksForm t = HasForms t → ⊥

abbrev pub AreFormsOf : Triangle → Forms → Type 0
AreFormsOf t Upright = (turn t).z ≡ pos 0
AreFormsOf t TooLarge = LacksForm t
AreFormsOf t (Reduced forms) = AreReduced t forms
