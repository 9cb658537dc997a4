-- The points of a face with cut edges are those of its piece.
use Rattle.std.proofs.Common.{◌≡◌, Bool, true, false, true≢false, ◌&&◌, ◌==◌, List, [], ◌∷◌, map, reverse, ℤ, pos, neg_ℤ, ◌<ℤ◌, int_lt, unsigned_abs, refl, sym, ap, ap₂, ◌∙◌, subst, arith}
use Rattle.std.specs.Prelude.{◌↔◌}
use Rattle.std.specs.List.{list_all, flat_map}
use Rattle.std.proofs.lemmas.Int.{ints}
use Rattle.std.proofs.lemmas.Bool.{eq-eqb, eqb-true}
use Rattle.integer_laws.proofs.Products.{size_zero}
use Rattle.spec_space.specs.declared.Point.{Point}
use Rattle.spec_space.specs.declared.Plane.{Plane}
use Rattle.spec_space.specs.Points.{value, opposite}
use Rattle.spec_page.specs.Element.{Face}
use Rattle.spec_page.specs.Faces.{lies_on}
use Rattle.plane_core.specs.declared.numbers.Plane.{Plane as BookPlane}
use Rattle.plane_core.specs.declared.numbers.Corner.{Corner}
use Rattle.convex_cycles.proofs.Hull.{value-opposite}
use Rattle.convex_cycles.proofs.Lists.{Each, each_append, each_split, each_map, each_from_map, each_weaker, each_from_all, all_from_each}
use Rattle.poly_frag.specs.Frags.{kept_side, side_of, sides_of, support_of, IsInside}
use Rattle.poly_frag.specs.declared.frag.Edge.{Edge}
use Rattle.poly_frag.proofs.Starts.{on_plane}
use Rattle.face_walk.specs.declared.faces.OutFace.{OutFace}
use Rattle.edge_cut.specs.Seen.{outer_side, edges_seen}
use Rattle.edge_cut.proofs.Reversed.{each_seen, each_from_reverse, each_from_rotated}
use Rattle.edge_cut.specs.Cuts.{CutSide, edges_along, corners_along, IsCutFaceOf}
use Rattle.edge_cut.proofs.Cutting.{on_kept_side}

both : (a b : Bool) → (a && b) ≡ true → (a ≡ true) × (b ≡ true)
both true b e = (refl, e)
both false b e = absurd (true≢false (sym e))

all_true : {X : Type 0} (test : X → Bool) (xs : List X) → list_all test xs ≡ true → Each (λ x. test x ≡ true) xs
all_true test [] e = tt
all_true test (x ∷ xs) e = let parts = both (test x) (list_all test xs) e in (parts.0, all_true test xs parts.1)

true_all : {X : Type 0} (test : X → Bool) (xs : List X) → Each (λ x. test x ≡ true) xs → list_all test xs ≡ true
true_all test [] e = refl
true_all test (x ∷ xs) e = ap₂ (λ a b. a && b) e.0 (true_all test xs e.1)

-- what holds of all edges as they are seen holds of all edges
each_from_seen : (P : Edge → Type 0) (front_out : Bool) (edges : List Edge) → Each P (edges_seen front_out edges) → Each P edges
each_from_seen P true edges e = e
each_from_seen P false edges e = each_from_reverse P edges (each_from_rotated P (reverse edges) e)

-- ---- behind the outer side of an edge is inside the side that it keeps
test_outer : (x y : ℤ) → y ≡ neg_ℤ x → pos 0 <ℤ x → int_lt y (pos 0) ≡ true
test_outer x y e inside = by (int_lt y (pos 0)) refl
  where
    by : (t : Bool) → int_lt y (pos 0) ≡ t → t ≡ true
    by true f = refl
    by false f = absurd (omega (arith, ints, e, inside, f))

from_test_outer : (x y : ℤ) → y ≡ neg_ℤ x → int_lt y (pos 0) ≡ true → pos 0 <ℤ x
from_test_outer x y e f = omega (arith, ints)

module _ (planes : List BookPlane) (p : Point) where
  abbrev IsKept : Edge → Type 0
  IsKept e = pos 0 <ℤ value (side_of planes e) p

  abbrev behind : Plane → Bool
  behind m = int_lt (value m p) (pos 0)

  abbrev IsBehind : Edge → Type 0
  IsBehind e = behind (outer_side planes e) ≡ true

  kept_behind : (e : Edge) → IsKept e → IsBehind e
  kept_behind e k = test_outer (value (side_of planes e) p) (value (outer_side planes e) p) (value-opposite (side_of planes e) p) k

  behind_kept : (e : Edge) → IsBehind e → IsKept e
  behind_kept e b = from_test_outer (value (side_of planes e) p) (value (outer_side planes e) p) (value-opposite (side_of planes e) p) b

  -- ---- the edges, and their parts
  each_same : (e : Edge) (cs : List Corner) → IsKept e → Each IsKept (map (λ c. e) cs)
  each_same e [] k = tt
  each_same e (c ∷ cs) k = (k, each_same e cs k)

  all_parts : (ks : List CutSide) → Each IsKept (map (λ s. s.edge) (map (λ k. k.side) ks)) → Each IsKept (flat_map edges_along ks)
  all_parts [] h = tt
  all_parts (k ∷ ks) h = each_append IsKept (edges_along k) (flat_map edges_along ks) (each_same k.side.edge (corners_along k) h.0) (all_parts ks h.1)

  from_parts : (ks : List CutSide) → Each IsKept (flat_map edges_along ks) → Each IsKept (map (λ s. s.edge) (map (λ k. k.side) ks))
  from_parts [] h = tt
  from_parts (k ∷ ks) h = let parts = each_split IsKept (edges_along k) (flat_map edges_along ks) h in (parts.0.0, from_parts ks parts.1)

  -- ---- the face
  module _ (cutting corners : List Corner) (o : OutFace) (face : Face) (is : IsCutFaceOf planes cutting corners o face) where
    abbrev seen : List Edge
    seen = edges_seen o.front_out (flat_map edges_along is.cuts)

    lies_inside : lies_on face p ≡ true → IsInside planes o.frag p
    lies_inside e =
        let parts = both (unsigned_abs (value face.plane p) == 0) (list_all behind face.edges) e in
        let tests : Each (λ m. behind m ≡ true) (map (outer_side planes) seen) = subst (Each (λ m. behind m ≡ true)) is.edges (all_true behind face.edges parts.1) in
        let kept : Each IsKept seen = each_weaker IsBehind IsKept behind_kept seen (each_from_map (λ m. behind m ≡ true) (outer_side planes) seen tests) in (
          on_plane o.front_out (support_of planes o.frag) p (subst (λ h. value h p ≡ pos 0) is.plane (size_zero (value face.plane p) (eqb-true (unsigned_abs (value face.plane p)) 0 parts.0))),
          all_from_each (λ h. pos 0 <ℤ value h p) (sides_of planes o.frag) (each_map (λ h. pos 0 <ℤ value h p) (side_of planes) o.frag.edges.items
              (subst (Each IsKept) is.of_piece.edges (from_parts is.cuts (each_from_seen IsKept o.front_out (flat_map edges_along is.cuts) kept)))),
        )

    inside_lies : IsInside planes o.frag p → lies_on face p ≡ true
    inside_lies i =
        let edges : Each IsKept o.frag.edges.items = each_from_map (λ h. pos 0 <ℤ value h p) (side_of planes) o.frag.edges.items (each_from_all (λ h. pos 0 <ℤ value h p) (sides_of planes o.frag) i.1) in
        let kept : Each IsKept seen = each_seen IsKept o.front_out (flat_map edges_along is.cuts) (all_parts is.cuts (subst (Each IsKept) (sym is.of_piece.edges) edges)) in
        ap₂ (λ a b. a && b)
        (eq-eqb (unsigned_abs (value face.plane p)) 0 (ap unsigned_abs (subst (λ h. value h p ≡ pos 0) (sym is.plane) (on_kept_side o.front_out (support_of planes o.frag) p i.0))))
        (true_all behind face.edges (subst (Each (λ m. behind m ≡ true)) (sym is.edges) (each_map (λ m. behind m ≡ true) (outer_side planes) seen (each_weaker IsKept IsBehind kept_behind seen kept))))

    -- a point lies on the face exactly where it is strictly inside the piece
    pub face_lies_on : (lies_on face p ≡ true) ↔ IsInside planes o.frag p
    face_lies_on = (lies_inside, inside_lies)
