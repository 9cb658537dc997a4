-- The neighbours of a point that is alone on a plane of an element: off all planes of the element, and where the point is.
use Rattle.std.proofs.Common.{◌≡◌, ◌≢◌, ◌⊎◌, inl, inr, ◌≤◌, ◌^◌, Bool, true, false, List, ℤ, pos, negsuc, ◌+ℤ◌, ◌-ℤ◌, ◌*ℤ◌, ◌<ℤ◌, ◌≤ℤ◌, unsigned_abs, refl, sym, ◌∙◌, subst, arith}
use Rattle.std.specs.List.{Contains}
use Rattle.std.proofs.lemmas.Int.{ints, by_lt_z}
use Rattle.std.proofs.Math.Logic.{∥∥₁_elim}
use Rattle.spec_space.specs.declared.Plane.{Plane}
use Rattle.spec_space.specs.declared.Point.{Point}
use Rattle.spec_space.specs.Points.{IsPoint, value}
use Rattle.spec_solid.specs.Planes.{body_planes, IsPlaneOf, IsAlone}
use Rattle.integer_laws.proofs.Cancel.{sign_cases}
use Rattle.integer_laws.proofs.Products.{cancel_zero, zero_right}
use Rattle.plane_core.specs.declared.numbers.Plane.{Plane as BookPlane}
use Rattle.plane_core.specs.Planes.{IsReductionOf}
use Rattle.plane_core.specs.Views.{plane_of}
use Rattle.plane_core.proofs.Laws.{reduced_is_reduced}
use Rattle.grid_solid.specs.Bodies.{body_of}
use Rattle.grid_solid.specs.declared.solids.GridSolid.{GridSolid}
use Rattle.grid_solid.proofs.Laws.{body_formed}
use Rattle.poly_frag.specs.Cubes.{IsInsideCube}
use Rattle.line_turns.proofs.Neighbours.{neighbour, neighbour_near, own_strictly, strictly_off}
use Rattle.tree_pool.specs.Trees.{Tree}
use Rattle.triangle_trees.proofs.Covers.{value_of_times}
use Rattle.solid_tree.specs.Elements.{IsOut, out_left, out_right, out_front, out_back, out_down, out_up, IsTight}
use Rattle.face_walk.specs.Faces.{IsInRange, IsTight as IsFalseOutOfRange}

-- ---- the planes of an element, by their reduced forms
module _ (s : GridSolid) where
  -- the point is on none of the reduced planes
  abbrev pub IsOffForms : Point → Type 0
  IsOffForms q = (c : BookPlane) → IsPlaneOf (body_of s) (plane_of c) → value (plane_of c) q ≢ pos 0

  form_is : (k : Plane) (c : BookPlane) → Contains (body_planes (body_of s)) k → IsReductionOf c k.a k.b k.c k.d → IsPlaneOf (body_of s) (plane_of c)
  form_is k c there r = (reduced_is_reduced c, (k, r.factor, there, r.some, r.times))

  form_zero : (k : Plane) (c : BookPlane) (q : Point) → IsReductionOf c k.a k.b k.c k.d → value k q ≡ pos 0 → value (plane_of c) q ≡ pos 0
  form_zero k c q r z = cancel_zero r.factor (value (plane_of c) q) r.some (sym (value_of_times r.factor (plane_of c) k q r.times) ∙ z)

  pub off_given : (q : Point) → IsOffForms q → (k : Plane) → Contains (body_planes (body_of s)) k → value k q ≢ pos 0
  off_given q off k there z = ∥∥₁_elim (body_formed s k there) (λ a b. absurd a) (λ f. off f.0 (form_is k f.0 there f.1) (form_zero k f.0 q f.1 z))

  pub off_planes : (q : Point) → IsOffForms q → (h : Plane) → IsPlaneOf (body_of s) h → value h q ≢ pos 0
  off_planes q off h (r, (k, m, there, some, times)) z = off_given q off k there (value_of_times m h k q times ∙ zero_right m (value h q) z)

  -- the plane on which a point is alone has a reduced form within the sizes of planes, which it is
  pub with_form : (h : Plane) (p : Point) → IsAlone (body_of s) h p → ((b : BookPlane) → plane_of b ≡ h → ⊥) → ⊥
  with_form h p alone none = by alone.0
    where
      by : IsPlaneOf (body_of s) h → ⊥
      by (r, (k, m, there, some, times)) = ∥∥₁_elim (body_formed s k there) (λ a b. absurd a)
          (λ f. none f.0 (alone.2 (plane_of f.0) (form_is k f.0 there f.1) (form_zero k f.0 p f.1 (value_of_times m h k p times ∙ zero_right m (value h p) alone.1))))

  -- ---- a neighbour is off all planes
  pub neighbour_off : (a : Bool) (b : BookPlane) (p : Point) → IsAlone (body_of s) (plane_of b) p → IsOffForms (neighbour a (plane_of b) p)
  neighbour_off a b p alone c is = elim (sign_cases (value (plane_of c) p)) [
    | inl low ↦ strictly_off false (value (plane_of c) (neighbour a (plane_of b) p)) ((neighbour_near a b c p).behind low)
    | inr (inl on) ↦ subst (λ h. value h (neighbour a (plane_of b) p) ≢ pos 0) (sym (alone.2 (plane_of c) is on)) (own_off a)
    | inr (inr high) ↦ strictly_off true (value (plane_of c) (neighbour a (plane_of b) p)) ((neighbour_near a b c p).front high)
  ]
    where
      own_off : (a : Bool) → value (plane_of b) (neighbour a (plane_of b) p) ≢ pos 0
      own_off a = strictly_off a (value (plane_of b) (neighbour a (plane_of b) p)) (own_strictly a b p alone.1)

-- ---- coordinates
-- in range, or out
module _ (p : Point) where
  by_side : (c d : ℤ) (P : Type 0) → (c <ℤ d → P) → (d ≤ℤ c → P) → P
  by_side c d P f g = by_lt_z c d f g

  pub range_cases : IsInRange p ⊎ IsOut p
  range_cases =
      by_side p.x (negsuc 1048575 *ℤ p.w) (IsInRange p ⊎ IsOut p) (λ h. inr (out_left h)) (λ a.
      by_side (pos 1048576 *ℤ p.w) p.x (IsInRange p ⊎ IsOut p) (λ h. inr (out_right h)) (λ b.
      by_side p.y (negsuc 1048575 *ℤ p.w) (IsInRange p ⊎ IsOut p) (λ h. inr (out_front h)) (λ c.
      by_side (pos 1048576 *ℤ p.w) p.y (IsInRange p ⊎ IsOut p) (λ h. inr (out_back h)) (λ d.
      by_side p.z (negsuc 1048575 *ℤ p.w) (IsInRange p ⊎ IsOut p) (λ h. inr (out_down h)) (λ e.
      by_side (pos 1048576 *ℤ p.w) p.z (IsInRange p ⊎ IsOut p) (λ h. inr (out_up h)) (λ f.
      inl (record { x_low = a; x_high = b; y_low = c; y_high = d; z_low = e; z_high = f })))))))

clash : (a b : ℤ) → a ≤ℤ b → b <ℤ a → ⊥
clash a b h k = omega (arith, ints)

-- what is out is not in range
pub out_of_range : (p : Point) → IsOut p → IsInRange p → ⊥
out_of_range p (out_left h) r = clash (negsuc 1048575 *ℤ p.w) p.x r.x_low h
out_of_range p (out_right h) r = clash p.x (pos 1048576 *ℤ p.w) r.x_high h
out_of_range p (out_front h) r = clash (negsuc 1048575 *ℤ p.w) p.y r.y_low h
out_of_range p (out_back h) r = clash p.y (pos 1048576 *ℤ p.w) r.y_high h
out_of_range p (out_down h) r = clash (negsuc 1048575 *ℤ p.w) p.z r.z_low h
out_of_range p (out_up h) r = clash p.z (pos 1048576 *ℤ p.w) r.z_high h

-- a coordinate of a neighbour
abbrev moved : Bool → ℤ → ℤ → ℤ
moved true x a = pos (2 ^ 54) *ℤ x +ℤ a
moved false x a = pos (2 ^ 54) *ℤ x -ℤ a

above : (side : Bool) (x w a : ℤ) → unsigned_abs a ≤ 2 ^ 26 → (pos 1048576 *ℤ w) <ℤ x → (pos 1048576 *ℤ (pos (2 ^ 54) *ℤ w)) <ℤ moved side x a
above true x w a small h = omega (arith, ints)
above false x w a small h = omega (arith, ints)

below : (side : Bool) (x w a : ℤ) → unsigned_abs a ≤ 2 ^ 26 → x <ℤ (negsuc 1048575 *ℤ w) → moved side x a <ℤ (negsuc 1048575 *ℤ (pos (2 ^ 54) *ℤ w))
below true x w a small h = omega (arith, ints)
below false x w a small h = omega (arith, ints)

least : (side : Bool) (x w a : ℤ) → unsigned_abs a ≤ 2 ^ 26 → pos 0 <ℤ w → (negsuc 1048575 *ℤ w) ≤ℤ x → (negsuc 1048576 *ℤ (pos (2 ^ 54) *ℤ w)) <ℤ moved side x a
least true x w a small positive h = omega (arith, ints)
least false x w a small positive h = omega (arith, ints)

most : (side : Bool) (x w a : ℤ) → unsigned_abs a ≤ 2 ^ 26 → pos 0 <ℤ w → x ≤ℤ (pos 1048576 *ℤ w) → moved side x a <ℤ (pos 1048577 *ℤ (pos (2 ^ 54) *ℤ w))
most true x w a small positive h = omega (arith, ints)
most false x w a small positive h = omega (arith, ints)

abbrev moved_point : Bool → Plane → Point → Point
moved_point side h p = record { x = moved side p.x h.a; y = moved side p.y h.b; z = moved side p.z h.c; w = pos (2 ^ 54) *ℤ p.w }

moved_is : (side : Bool) (h : Plane) (p : Point) → moved_point side h p ≡ neighbour side h p
moved_is true h p = refl
moved_is false h p = refl

-- a neighbour is out where the point is
pub neighbour_out : (side : Bool) (b : BookPlane) (p : Point) → IsOut p → IsOut (neighbour side (plane_of b) p)
neighbour_out side b p out = subst IsOut (moved_is side (plane_of b) p) (by out)
  where
    by : IsOut p → IsOut (moved_point side (plane_of b) p)
    by (out_left h) = out_left (below side p.x p.w b.a b.a_small h)
    by (out_right h) = out_right (above side p.x p.w b.a b.a_small h)
    by (out_front h) = out_front (below side p.y p.w b.b b.b_small h)
    by (out_back h) = out_back (above side p.y p.w b.b b.b_small h)
    by (out_down h) = out_down (below side p.z p.w b.c b.c_small h)
    by (out_up h) = out_up (above side p.z p.w b.c b.c_small h)

-- a neighbour of a point in range is strictly inside the enclosing cube
pub neighbour_inside : (side : Bool) (b : BookPlane) (p : Point) → IsPoint p → IsInRange p → IsInsideCube (neighbour side (plane_of b) p)
neighbour_inside side b p is r = subst IsInsideCube (moved_is side (plane_of b) p) (record {
  x_low = least side p.x p.w b.a b.a_small is r.x_low;
  x_high = most side p.x p.w b.a b.a_small is r.x_high;
  y_low = least side p.y p.w b.b b.b_small is r.y_low;
  y_high = most side p.y p.w b.b b.b_small is r.y_high;
  z_low = least side p.z p.w b.c b.c_small is r.z_low;
  z_high = most side p.z p.w b.c b.c_small is r.z_high;
})

-- a tree that is false where a coordinate is out is false where one is not in range
pub tight_in_range : (planes : List BookPlane) (t : Tree) → IsTight planes t → IsFalseOutOfRange planes t
tight_in_range planes t tight q point cube off out = elim (range_cases q) [
  | inl r ↦ absurd (out r)
  | inr far ↦ tight q point cube off far
]
