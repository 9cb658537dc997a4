-- The meaning of an element is told by the sides of its planes.
use Rattle.std.proofs.Common.{ℕ, ◌<◌, ◌++◌, subst, ◌≡◌, ◌≢◌, ◌⊎◌, ℤ, pos, negsuc, zero, suc, ◌*ℤ◌, ◌<ℤ◌, int_lt, Bool, true, false, not, ◌&&◌, ◌||◌, List, [], ◌∷◌, refl, sym, ap, ap₂, ◌∙◌, inl, inr, arith}
use Rattle.std.specs.Prelude.{◌==◌, unsigned_abs, if◌then◌else◌}
use Rattle.std.specs.List.{flat_map, Contains}
use Rattle.std.proofs.lemmas.Int.{ints}
use Rattle.std.proofs.lemmas.List.Elements.{Contains-append_left, Contains-append_right}
use Rattle.std.proofs.Math.Logic.{∥∥₁_elim}
use Rattle.spec_space.specs.declared.Point.{Point}
use Rattle.spec_space.specs.declared.Plane.{Plane}
use Rattle.spec_space.specs.Points.{IsPoint, value}
use Rattle.spec_solid.specs.Triangles.{Triangle, differ, turn}
use Rattle.spec_solid.specs.Solids.{Solid, Shell, HalfSpace, Combined, Body, truth, is_meant}
use Rattle.spec_solid.specs.Planes.{IsPlaneOf, plane_through, upright_plane, triangle_planes, solid_planes, body_planes}
use Rattle.integer_laws.proofs.Signs.{mul_positive, mul_negative}
use Rattle.integer_laws.proofs.Ring.{var, ◌⊗◌, ring}
use Rattle.ray_law.specs.Columns.{is_in_front, same}
use Rattle.ray_law.specs.Shells.{is_told, is_told_oddly, is_sided}
use Rattle.ray_law.specs.Bodies.{is_solid_told, is_some_told, is_body_told}
use Rattle.ray_law.proofs.Bodies.{body_told}
use Rattle.plane_core.specs.declared.numbers.Plane.{Plane as BookPlane}
use Rattle.plane_core.specs.Planes.{IsReductionOf}
use Rattle.plane_core.specs.Views.{plane_of}
use Rattle.grid_solid.specs.Bodies.{body_of}
use Rattle.grid_solid.specs.Triangles.{HasForm}
use Rattle.grid_solid.specs.declared.solids.GridSolid.{GridSolid}
use Rattle.grid_solid.proofs.Laws.{body_formed, body_closed}
use Rattle.triangle_trees.proofs.Covers.{value_of_times}
use Rattle.solid_tree.specs.Cells.{AreOnOneSide, AreInOneCell, HasOneMeaningInEachCell}
use Rattle.solid_tree.proofs.ElementLaws.{plane_is, off_plane}

-- ---- the sides of a plane and of its reduced form
abbrev Beside : ℤ → ℤ → Type 0
Beside v w = ((pos 0 <ℤ v) × (pos 0 <ℤ w)) ⊎ ((v <ℤ pos 0) × (w <ℤ pos 0))

beside_swapped : (v w : ℤ) → Beside v w → Beside w v
beside_swapped v w (inl h) = inl (h.1, h.0)
beside_swapped v w (inr h) = inr (h.1, h.0)

mul_back : (m v : ℤ) → m <ℤ pos 0 → v <ℤ pos 0 → pos 0 <ℤ (m *ℤ v)
mul_back (negsuc m) (negsuc v) h l = mul_positive (pos (suc m)) (pos (suc v)) (positive m) (positive v)
  where
    positive : (n : ℕ) → pos 0 <ℤ pos (suc n)
    positive n = omega (arith, ints)
mul_back (pos m) v h l = absurd (omega (arith, ints))
mul_back (negsuc m) (pos v) h l = absurd (omega (arith, ints))

mul_front : (m v : ℤ) → m <ℤ pos 0 → pos 0 <ℤ v → (m *ℤ v) <ℤ pos 0
mul_front m v h l = subst (λ z. z <ℤ pos 0) (ring (m ∷ (v ∷ [])) (var 1 ⊗ var 0) (var 0 ⊗ var 1) refl) (mul_negative v m l h)

above_and_below : (z : ℤ) → pos 0 <ℤ z → z <ℤ pos 0 → ⊥
above_and_below z h l = omega (arith, ints)

above_too : (m v w : ℤ) → m ≢ pos 0 → Beside v w → pos 0 <ℤ (m *ℤ v) → pos 0 <ℤ (m *ℤ w)
above_too (pos zero) v w some side h = absurd (some refl)
above_too (pos (suc n)) v w some (inl s) h = mul_positive (pos (suc n)) w (omega (arith, ints)) s.1
above_too (pos (suc n)) v w some (inr s) h = absurd (above_and_below (pos (suc n) *ℤ v) h (mul_negative (pos (suc n)) v (omega (arith, ints)) s.0))
above_too (negsuc n) v w some (inl s) h = absurd (above_and_below (negsuc n *ℤ v) h (mul_front (negsuc n) v (omega (arith, ints)) s.0))
above_too (negsuc n) v w some (inr s) h = mul_back (negsuc n) w (omega (arith, ints)) s.1

above : (k : Plane) (p q : Point) (f : BookPlane) → IsReductionOf f k.a k.b k.c k.d → AreOnOneSide (plane_of f) p q → pos 0 <ℤ value k p → pos 0 <ℤ value k q
above k p q f r side h =
    rw (value_of_times r.factor (plane_of f) k q r.times)
    (above_too r.factor (value (plane_of f) p) (value (plane_of f) q) r.some side (subst (λ z. pos 0 <ℤ z) (value_of_times r.factor (plane_of f) k p r.times) h))

flag : (v : ℤ) → pos 0 <ℤ v → int_lt (pos 0) v ≡ false → ⊥
flag v h e = omega (arith, ints)

flagged : (v : ℤ) → int_lt (pos 0) v ≡ true → pos 0 <ℤ v
flagged v e = omega (arith, ints)

front_too : (body : Body) (p q : Point) → AreInOneCell body p q → (k : Plane) → Contains (body_planes body) k → HasForm k → is_in_front p k ≡ is_in_front q k
front_too body p q cell k there form = by (is_in_front p k) (is_in_front q k) refl refl
  where
    by : (b d : Bool) → is_in_front p k ≡ b → is_in_front q k ≡ d → b ≡ d
    by true true e f = refl
    by false false e f = refl
    by true false e f = absurd (∥∥₁_elim form (λ a b. absurd a)
        (λ r. flag (value k q) (above k p q r.0 r.1 (cell (plane_of r.0) (plane_is body k r.0 there r.1)) (flagged (value k p) e)) f))
    by false true e f = absurd (∥∥₁_elim form (λ a b. absurd a)
        (λ r. flag (value k p) (above k q p r.0 r.1 (beside_swapped (value (plane_of r.0) p) (value (plane_of r.0) q) (cell (plane_of r.0) (plane_is body k r.0 there r.1))) (flagged (value k q) f)) e))

off_side : (v w : ℤ) → Beside v w → v ≢ pos 0
off_side v w (inl h) e = omega (arith, ints)
off_side v w (inr h) e = omega (arith, ints)

-- ---- what is told by sides alone
module _ (f g : Plane → Bool) where
  abbrev Agree : List Plane → Type 0
  Agree ks = (k : Plane) → Contains ks k → f k ≡ g k

  agree_left : (ks ls : List Plane) → Agree (ks ++ ls) → Agree ks
  agree_left ks ls same k c = same k (Contains-append_left ks ls k c)

  agree_right : (ks ls : List Plane) → Agree (ks ++ ls) → Agree ls
  agree_right ks ls same k c = same k (Contains-append_right ks ls k c)

  triangle_same : (t : Triangle) → Agree (triangle_planes t) → is_told f t ≡ is_told g t
  triangle_same t = by (unsigned_abs (turn t).z == 0)
    where
      turned : Bool → Bool
      turned b = same (int_lt (turn t).z (pos 0)) b

      all : (Plane → Bool) → Bool
      all told = (is_sided told t (upright_plane t.a t.b) && (is_sided told t (upright_plane t.b t.c) && is_sided told t (upright_plane t.c t.a))) && is_sided told t (plane_through t)

      by : (flat : Bool) → Agree (if flat then [] else plane_through t ∷ upright_plane t.a t.b ∷ upright_plane t.b t.c ∷ upright_plane t.c t.a ∷ []) → (if flat then false else all f) ≡ (if flat then false else all g)
      by true agree = refl
      by false agree =
          let through = agree (plane_through t) (0, omega arith, refl) in
          let ab = agree (upright_plane t.a t.b) (1, omega arith, refl) in
          let bc = agree (upright_plane t.b t.c) (2, omega arith, refl) in
          let ca = agree (upright_plane t.c t.a) (3, omega arith, refl) in
          λ i. (turned (ab i) && (turned (bc i) && turned (ca i))) && turned (through i)

  triangles_same : (ts : List Triangle) → Agree (flat_map triangle_planes ts) → is_told_oddly f ts ≡ is_told_oddly g ts
  triangles_same [] agree = refl
  triangles_same (t ∷ ts) agree =
      ap₂ differ
      (triangle_same t (agree_left (triangle_planes t) (flat_map triangle_planes ts) agree))
      (triangles_same ts (agree_right (triangle_planes t) (flat_map triangle_planes ts) agree))

  solid_same : (s : Solid) → Agree (solid_planes s) → is_solid_told f s ≡ is_solid_told g s
  solid_same (Shell triangles) agree = triangles_same triangles agree
  solid_same (HalfSpace h front) agree = ap (λ b. if front then b else not b) (agree h (0, omega arith, refl))
  solid_same (Combined operator first second) agree =
      ap₂ (truth operator)
      (solid_same first (agree_left (solid_planes first) (solid_planes second) agree))
      (solid_same second (agree_right (solid_planes first) (solid_planes second) agree))

  some_same : (ss : List Solid) → Agree (flat_map solid_planes ss) → is_some_told f ss ≡ is_some_told g ss
  some_same [] agree = refl
  some_same (s ∷ ss) agree =
      ap₂ (λ x y. x || y)
      (solid_same s (agree_left (solid_planes s) (flat_map solid_planes ss) agree))
      (some_same ss (agree_right (solid_planes s) (flat_map solid_planes ss) agree))

  body_same : (body : Body) → Agree (body_planes body) → is_body_told f body ≡ is_body_told g body
  body_same body agree =
      ap₂ (λ x y. x && not y)
      (some_same body.items (agree_left (flat_map solid_planes body.items) (flat_map solid_planes body.openings) agree))
      (some_same body.openings (agree_right (flat_map solid_planes body.items) (flat_map solid_planes body.openings) agree))

-- ---- an element has one meaning in each cell of its planes
pub one_meaning : (s : GridSolid) → HasOneMeaningInEachCell (body_of s)
one_meaning s p q p_point q_point cell =
    let body = body_of s in
    body_told body p p_point (body_closed s) (λ k c. off_plane body p (λ h is. off_side (value h p) (value h q) (cell h is)) k c (body_formed s k c))
    ∙ body_same (is_in_front p) (is_in_front q) body (λ k c. front_too body p q cell k c (body_formed s k c))
    ∙ sym (body_told body q q_point (body_closed s) (λ k c. off_plane body q (λ h is. off_side (value h q) (value h p) (beside_swapped (value h p) (value h q) (cell h is))) k c (body_formed s k c)))
