-- The tests of faces decide what the definitions say of an element with the same corners.
use Rattle.std.proofs.Common.{◌≡◌, inl, inr, ℕ, ℤ, pos, ◌*ℤ◌, ◌<ℤ◌, ◌≤ℤ◌, int_le, int_lt, Bool, true, false, ◌&&◌, if◌then◌else◌, List, [], ◌∷◌, ◌++◌, map, length, slice_index_or, All, Decides, refl, sym, ap, subst, ◌∙◌, arith}
use Rattle.std.specs.List.{list_all}
use Rattle.std.specs.Ordering.{int_eq}
use Rattle.std.proofs.lemmas.Int.{ints}
use Rattle.std.proofs.lemmas.Bool.Decides.{Decides-int_eq}
use Rattle.std.proofs.lemmas.List.Elements.{All-nil, All-cons, All-head, All-tail, All-weaker}
use Rattle.std.proofs.Math.ListN.{get_or-map}
use Rattle.spec_space.specs.declared.Point.{Point}
use Rattle.spec_space.specs.declared.Plane.{Plane}
use Rattle.spec_space.specs.declared.Vector.{Vector}
use Rattle.spec_space.specs.Points.{value, normal, cross, way_between}
use Rattle.spec_page.specs.declared.Corner.{Corner as PageCorner}
use Rattle.spec_page.specs.Element.{Face, Element}
use Rattle.spec_page.specs.Faces.{no_corner, corner_at, face_points, rotated, GoesAlong, IsEdge, AreEdges, IsSound}
use Rattle.spec_check.specs.Limits.{IsFaceWithin}
use Rattle.spec_check.specs.Verdicts.{IsFlat}
use Rattle.spec_headline.specs.Reduced.{IsPrintedPlane}
use Rattle.plane_core.specs.declared.numbers.Corner.{Corner}
use Rattle.plane_core.specs.Views.{point_of}
use Rattle.face_check.specs.Sizes.{IsSizedPlane, IsSizedFace}
use Rattle.face_check.specs.Sound.{point_at, are_on, are_behind, goes_along, is_edge, are_edges, is_flat, is_sound}

-- ---- truths
both_true : (s t : Bool) → (s && t) ≡ true → (s ≡ true) × (t ≡ true)
both_true true t e = (refl, e)
both_true false t e = cc

both : (s t : Bool) → s ≡ true → t ≡ true → (s && t) ≡ true
both s t e f = λ i. e i && f i

no : (s : Bool) → s ≡ true → s ≡ false → ⊥
no true a b = cc
no false a b = cc

below_decides : (x : ℤ) → Decides (int_le x (pos 0)) (x ≤ℤ pos 0)
below_decides x = (λ e. one x e, λ h. other x (int_le x (pos 0)) refl h)
  where
    one : (x : ℤ) → int_le x (pos 0) ≡ true → x ≤ℤ pos 0
    one x e = omega (arith, ints)

    other : (x : ℤ) (t : Bool) → int_le x (pos 0) ≡ t → x ≤ℤ pos 0 → t ≡ true
    other x true e h = refl
    other x false e h = absurd (omega (arith, ints))

above : (x : ℤ) → int_lt (pos 0) x ≡ true → pos 0 <ℤ x
above x e = omega (arith, ints)

test_above : (x : ℤ) (t : Bool) → int_lt (pos 0) x ≡ t → pos 0 <ℤ x → t ≡ true
test_above x true e h = refl
test_above x false e h = absurd (omega (arith, ints))

-- ---- each member
all_decides : {X : Type 0} (t : ℕ → Bool) (P : X → Type 0) (g : ℕ → X) → ((i : ℕ) → Decides (t i) (P (g i))) → (is : List ℕ) → Decides (list_all t is) (All P (map g is))
all_decides t P g h [] = (λ e. All-nil P, λ a. refl)
all_decides t P g h (i ∷ is) =
    let rest = all_decides t P g h is in (
      λ e. let two = both_true (t i) (list_all t is) e in All-cons P (g i) (map g is) ((h i).0 two.0) (rest.0 two.1),
      λ a. both (t i) (list_all t is) ((h i).1 (All-head P (g i) (map g is) a)) (rest.1 (All-tail P (g i) (map g is) a)),
    )

-- ---- the direction of an edge
goes : (d w : Vector) → goes_along d w ≡ true → GoesAlong d w
goes d w e = by (int_eq d.x (pos 0)) refl e
  where
    second : (s : Bool) → int_eq d.x (pos 0) ≡ true → int_eq d.y (pos 0) ≡ s → (if s then int_lt (pos 0) (d.z *ℤ w.z) else int_lt (pos 0) (d.y *ℤ w.y)) ≡ true → GoesAlong d w
    second true x y e = inr ((Decides-int_eq d.x (pos 0)).0 x, inr ((Decides-int_eq d.y (pos 0)).0 y, above (d.z *ℤ w.z) e))
    second false x y e = inr ((Decides-int_eq d.x (pos 0)).0 x, inl (above (d.y *ℤ w.y) e))

    by : (s : Bool) → int_eq d.x (pos 0) ≡ s
        → (if s then (if int_eq d.y (pos 0) then int_lt (pos 0) (d.z *ℤ w.z) else int_lt (pos 0) (d.y *ℤ w.y)) else int_lt (pos 0) (d.x *ℤ w.x)) ≡ true → GoesAlong d w
    by true x e = second (int_eq d.y (pos 0)) x refl e
    by false x e = inl (above (d.x *ℤ w.x) e)

-- a number whose product is above 0 is not 0
not_zero : (d w : ℤ) → pos 0 <ℤ (d *ℤ w) → int_eq d (pos 0) ≡ false
not_zero d w h = by (int_eq d (pos 0)) refl
  where
    level : (w : ℤ) → pos 0 <ℤ (pos 0 *ℤ w) → ⊥
    level w h = omega (arith, ints)

    by : (s : Bool) → int_eq d (pos 0) ≡ s → s ≡ false
    by true e = absurd (level w (subst (λ x. pos 0 <ℤ (x *ℤ w)) ((Decides-int_eq d (pos 0)).0 e) h))
    by false e = refl

tests_way : (d w : Vector) → GoesAlong d w → goes_along d w ≡ true
tests_way d w (inl x) =
    ap (λ s. if s then (if int_eq d.y (pos 0) then int_lt (pos 0) (d.z *ℤ w.z) else int_lt (pos 0) (d.y *ℤ w.y)) else int_lt (pos 0) (d.x *ℤ w.x)) (not_zero d.x w.x x)
    ∙ test_above (d.x *ℤ w.x) (int_lt (pos 0) (d.x *ℤ w.x)) refl x
tests_way d w (inr (x, inl y)) =
    ap (λ s. if s then (if int_eq d.y (pos 0) then int_lt (pos 0) (d.z *ℤ w.z) else int_lt (pos 0) (d.y *ℤ w.y)) else int_lt (pos 0) (d.x *ℤ w.x)) ((Decides-int_eq d.x (pos 0)).1 x)
    ∙ ap (λ s. if s then int_lt (pos 0) (d.z *ℤ w.z) else int_lt (pos 0) (d.y *ℤ w.y)) (not_zero d.y w.y y)
    ∙ test_above (d.y *ℤ w.y) (int_lt (pos 0) (d.y *ℤ w.y)) refl y
tests_way d w (inr (x, inr (y, z))) =
    ap (λ s. if s then (if int_eq d.y (pos 0) then int_lt (pos 0) (d.z *ℤ w.z) else int_lt (pos 0) (d.y *ℤ w.y)) else int_lt (pos 0) (d.x *ℤ w.x)) ((Decides-int_eq d.x (pos 0)).1 x)
    ∙ ap (λ s. if s then int_lt (pos 0) (d.z *ℤ w.z) else int_lt (pos 0) (d.y *ℤ w.y)) ((Decides-int_eq d.y (pos 0)).1 y)
    ∙ test_above (d.z *ℤ w.z) (int_lt (pos 0) (d.z *ℤ w.z)) refl z

-- ---- edges
module _ (corners : List Corner) (h : Plane) (places : List ℕ) where
  abbrev points : List Point
  points = map (point_at corners) places

  on_decides : (m : Plane) (is : List ℕ) → Decides (are_on corners m is) (All (λ p. value m p ≡ pos 0) (map (point_at corners) is))
  on_decides m is = all_decides (λ i. int_eq (value m (point_at corners i)) (pos 0)) (λ (p : Point). value m p ≡ pos 0) (point_at corners) (λ i. Decides-int_eq (value m (point_at corners i)) (pos 0)) is

  behind_decides : (m : Plane) → Decides (are_behind corners m places) (All (λ p. value m p ≤ℤ pos 0) points)
  behind_decides m = all_decides (λ i. int_le (value m (point_at corners i)) (pos 0)) (λ (p : Point). value m p ≤ℤ pos 0) (point_at corners) (λ i. below_decides (value m (point_at corners i))) places

  edge_holds : (m : Plane) (i j : ℕ) → is_edge corners h m places i j ≡ true → IsEdge h m (point_at corners i) (point_at corners j) points
  edge_holds m i j e =
      let d = cross (normal h) (normal m) in
      let w = way_between (point_at corners i) (point_at corners j) in
      let ends = both_true (are_on corners m (i ∷ j ∷ [])) (are_behind corners m places && goes_along d w) e in
      let rest = both_true (are_behind corners m places) (goes_along d w) ends.1 in
      let on = (on_decides m (i ∷ j ∷ [])).0 ends.0 in
      record {
        first = All-head (λ (p : Point). value m p ≡ pos 0) (point_at corners i) (point_at corners j ∷ []) on;
        second = All-head (λ (p : Point). value m p ≡ pos 0) (point_at corners j) [] (All-tail (λ (p : Point). value m p ≡ pos 0) (point_at corners i) (point_at corners j ∷ []) on);
        behind = (behind_decides m).0 rest.0;
        along = goes d w rest.1;
      }

  edge_tests : (m : Plane) (i j : ℕ) → IsEdge h m (point_at corners i) (point_at corners j) points → is_edge corners h m places i j ≡ true
  edge_tests m i j e =
      let d = cross (normal h) (normal m) in
      let w = way_between (point_at corners i) (point_at corners j) in
      let P = λ (p : Point). value m p ≡ pos 0 in
      both (are_on corners m (i ∷ j ∷ [])) (are_behind corners m places && goes_along d w)
      ((on_decides m (i ∷ j ∷ [])).1 (All-cons P (point_at corners i) (point_at corners j ∷ []) e.first (All-cons P (point_at corners j) [] e.second (All-nil P))))
      (both (are_behind corners m places) (goes_along d w) ((behind_decides m).1 e.behind) (tests_way d w e.along))

  edges_decide : (ms : List Plane) (is js : List ℕ) → Decides (are_edges corners h places ms is js) (AreEdges h points ms (map (point_at corners) is) (map (point_at corners) js))
  edges_decide [] [] [] = (λ e. tt, λ a. refl)
  edges_decide [] [] (j ∷ js) = (λ e. cc, λ a. absurd a)
  edges_decide [] (i ∷ is) [] = (λ e. cc, λ a. absurd a)
  edges_decide [] (i ∷ is) (j ∷ js) = (λ e. cc, λ a. absurd a)
  edges_decide (m ∷ ms) [] [] = (λ e. cc, λ a. absurd a)
  edges_decide (m ∷ ms) [] (j ∷ js) = (λ e. cc, λ a. absurd a)
  edges_decide (m ∷ ms) (i ∷ is) [] = (λ e. cc, λ a. absurd a)
  edges_decide (m ∷ ms) (i ∷ is) (j ∷ js) =
      let rest = edges_decide ms is js in (
        λ e. let two = both_true (is_edge corners h m places i j) (are_edges corners h places ms is js) e in (edge_holds m i j two.0, rest.0 two.1),
        λ a. both (is_edge corners h m places i j) (are_edges corners h places ms is js) (edge_tests m i j a.0) (rest.1 a.1),
      )

rotated_map : {X Y : Type 0} (f : X → Y) (xs : List X) → map f (rotated xs) ≡ rotated (map f xs)
rotated_map f [] = refl
rotated_map f (x ∷ xs) = last xs
  where
    last : (ys : List _) → map f (ys ++ x ∷ []) ≡ map f ys ++ f x ∷ []
    last [] = refl
    last (y ∷ ys) = ap (λ zs. f y ∷ zs) (last ys)

-- ---- faces of an element
module _ (e : Element) (corners : List Corner) (same : map (λ (c : PageCorner). c.exact) e.corners ≡ map point_of corners) where
  points_same : (f : Face) → map (point_at corners) f.corners ≡ face_points e f
  points_same f = ap (λ (g : ℕ → Point). map g f.corners) (λ k i. at i k)
    where
      at : (i : ℕ) → point_at corners i ≡ (corner_at e i).exact
      at i = ap (λ (ps : List Point). slice_index_or ps i no_corner.exact) (sym same) ∙ get_or-map (λ (c : PageCorner). c.exact) e.corners i no_corner

  pub flat_decides : (f : Face) → Decides (is_flat corners f) (IsFlat e f)
  flat_decides f = subst (λ ps. Decides (is_flat corners f) (All (λ p. value f.plane p ≡ pos 0) ps)) (points_same f) (on_decides corners f.plane f.corners f.plane f.corners)

  round_decides : (f : Face) → Decides (are_edges corners f.plane f.corners f.edges f.corners (rotated f.corners)) (AreEdges f.plane (face_points e f) f.edges (face_points e f) (rotated (face_points e f)))
  round_decides f =
      subst (λ ps. Decides (are_edges corners f.plane f.corners f.edges f.corners (rotated f.corners)) (AreEdges f.plane ps f.edges ps (rotated ps))) (points_same f)
      (subst (λ qs. Decides (are_edges corners f.plane f.corners f.edges f.corners (rotated f.corners)) (AreEdges f.plane (map (point_at corners) f.corners) f.edges (map (point_at corners) f.corners) qs))
      (rotated_map (point_at corners) f.corners)
      (edges_decide corners f.plane f.corners f.edges f.corners (rotated f.corners)))

  pub sound_decides : (f : Face) → IsFaceWithin (length e.corners) f → Decides (is_sound corners f) (IsSound e f)
  sound_decides f kept =
      let flat = flat_decides f in
      let edges = round_decides f in
      let second = are_edges corners f.plane f.corners f.edges f.corners (rotated f.corners) in (
        λ h. let two = both_true (is_flat corners f) second h in record { enough = kept.enough; within = kept.within; flat = flat.0 two.0; edges = edges.0 two.1 },
        λ s. both (is_flat corners f) second (flat.1 s.flat) (edges.1 s.edges),
      )

-- ---- the limits of a page are those of the code
plane_sized : (h : Plane) → IsPrintedPlane h → IsSizedPlane h
plane_sized h p = record { a = p.a; b = p.b; c = p.c; d = p.d }

face_sized : (n : ℕ) (f : Face) → IsFaceWithin n f → IsSizedFace n f
face_sized n f h = record { plane = plane_sized f.plane h.plane; edges = All-weaker IsPrintedPlane IsSizedPlane plane_sized f.edges h.edges; paired = h.paired; within = h.within }

pub faces_sized : (n : ℕ) (fs : List Face) → All (IsFaceWithin n) fs → All (IsSizedFace n) fs
faces_sized n fs h = All-weaker (IsFaceWithin n) (IsSizedFace n) (face_sized n) fs h
