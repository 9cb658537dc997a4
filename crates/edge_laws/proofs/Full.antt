-- The faces of a mesh with cut edges are full, and hold the points of their pieces.
use Rattle.std.proofs.Common.{◌≡◌, ◌≢◌, inl, inr, ℕ, zero, suc, ◌<◌, ◌≤◌, Bool, true, false, List, [], ◌∷◌, Some, map, reverse, length, slice_get, slice_index_or, All, ℤ, pos, ◌<ℤ◌, refl, sym, ap, ◌∙◌, subst, arith}
use Rattle.std.specs.List.{AllZip, AllPairs, Any, flat_map}
use Rattle.std.proofs.Math.ListN.{get_or-map}
use Rattle.std.proofs.lemmas.List.{length-map}
use Rattle.spec_space.specs.declared.Point.{Point}
use Rattle.spec_space.specs.declared.Plane.{Plane}
use Rattle.spec_space.specs.Points.{value, opposite}
use Rattle.spec_page.specs.declared.Corner.{Corner as PageCorner}
use Rattle.spec_page.specs.Element.{Face, Element}
use Rattle.spec_page.specs.Faces.{no_corner, corner_at, face_points, rotated, IsEdge, AreEdges, IsFull}
use Rattle.plane_core.specs.declared.numbers.Plane.{Plane as BookPlane}
use Rattle.plane_core.specs.declared.numbers.Corner.{Corner}
use Rattle.plane_core.specs.Views.{point_of}
use Rattle.convex_cycles.proofs.Lists.{Each, Member, each_from_all, all_from_each, all_from_pair, each_weaker}
use Rattle.poly_frag.specs.Frags.{kept_side, support_of}
use Rattle.poly_frag.specs.Cycles.{IsCycle}
use Rattle.poly_frag.specs.declared.frag.Frag.{Frag}
use Rattle.face_walk.specs.declared.faces.OutFace.{OutFace}
use Rattle.edge_cut.specs.Seen.{outer_side, edges_seen, corners_seen, AreAt}
use Rattle.edge_laws.proofs.FrontRings.{HasBehind, IsRing}
use Rattle.edge_laws.proofs.Rows.{Rows}
use Rattle.edge_cut.proofs.Reversed.{map-reverse, map-rotated}
use Rattle.edge_cut.specs.Cuts.{CutSide, edges_along, corners_along, IsCutAt, IsCutFaceOf, AreCutFacesOf}
use Rattle.edge_laws.proofs.Rings.{cut_ring, turned_cut_ring}

-- ---- a ring of points makes a full face
edges_from_rows : (h : Plane) (points : List Point) (ms : List Plane) (us vs : List Point) → Rows (λ m u v. IsEdge h m u v points) ms us vs → AreEdges h points ms us vs
edges_from_rows h points [] [] [] r = tt
edges_from_rows h points (m ∷ ms) (u ∷ us) (v ∷ vs) r = (r.0, edges_from_rows h points ms us vs r.1)
edges_from_rows h points _ _ _ r = absurd r

any_member : {X : Type 0} (P : X → Type 0) (x : X) (xs : List X) → Member x xs → P x → Any P xs
any_member P x [] m p = absurd m
any_member P x (y ∷ ys) (inl same) p = (0, y, omega arith, refl, subst P same p)
any_member P x (y ∷ ys) (inr m) p = let r = any_member P x ys m p in let below = r.2 in (suc r.0, r.1, omega arith, r.3, r.4)

same_ring : (h k : Plane) (ms ns : List Plane) (ps qs : List Point) → k ≡ h → ns ≡ ms → qs ≡ ps → IsRing h ms ps → IsRing k ns qs
same_ring h k ms ns ps qs eh em ep ring = subst (λ g. IsRing g ns qs) (sym eh) (subst (λ gs. IsRing h gs qs) (sym em) (subst (IsRing h ms) (sym ep) ring))

full_from_ring : (e : Element) (face : Face) → All (λ i. i < length e.corners) face.corners → IsRing face.plane face.edges (face_points e face) → IsFull e face
full_from_ring e face within ring = record {
  sound = record {
    enough = long (length face.corners) (length (face_points e face)) ring.enough (length-map face.corners (λ i. (corner_at e i).exact));
    within = within;
    flat = all_from_each (λ p. value face.plane p ≡ pos 0) (face_points e face) ring.flat;
    edges = edges_from_rows face.plane (face_points e face) face.edges (face_points e face) (rotated (face_points e face)) ring.along;
  };
  different = all_from_pair (λ p q. p ≢ q) (face_points e face) ring.different;
  wide = all_from_each (λ m. Any (λ p. value m p <ℤ pos 0) (face_points e face)) face.edges
      (each_weaker (HasBehind (face_points e face)) (λ m. Any (λ p. value m p <ℤ pos 0) (face_points e face)) (λ m h. any_member (λ p. value m p <ℤ pos 0) h.0 (face_points e face) h.1 h.2) face.edges ring.wide);
}
  where
    long : (n m : ℕ) → 3 ≤ m → m ≡ n → 3 ≤ n
    long n m h e = omega arith

-- ---- the corners of an element that are those of the mesh
same_some : (c d : Corner) → Some c ≡ Some d → c ≡ d
same_some c d e = cc

get_point : (corners : List Corner) (i : ℕ) (c : Corner) (d : Point) → slice_get corners i ≡ Some c → slice_index_or (map point_of corners) i d ≡ point_of c
get_point [] i c d e = cc
get_point (x ∷ xs) zero c d e = ap point_of (same_some x c e)
get_point (x ∷ xs) (suc i) c d e = get_point xs i c d e

get_below : (corners : List Corner) (i : ℕ) (c : Corner) → slice_get corners i ≡ Some c → i < length corners
get_below [] i c e = cc
get_below (x ∷ xs) zero c e = omega arith
get_below (x ∷ xs) (suc i) c e = let h = get_below xs i c e in omega arith

-- its exact corners are these, in order
abbrev pub HasCorners : Element → List Corner → Type 0
HasCorners e corners = map (λ c. c.exact) e.corners ≡ map point_of corners

same_count : (e : Element) (corners : List Corner) → HasCorners e corners → length e.corners ≡ length corners
same_count e corners same = sym (length-map e.corners (λ (c : PageCorner). c.exact)) ∙ ap length same ∙ length-map corners point_of

module _ (e : Element) (corners : List Corner) (same : HasCorners e corners) where
  point_at : (i : ℕ) (c : Corner) → slice_get corners i ≡ Some c → (corner_at e i).exact ≡ point_of c
  point_at i c at = sym (get_or-map (λ (c : PageCorner). c.exact) e.corners i no_corner) ∙ ap (λ ps. slice_index_or ps i no_corner.exact) same ∙ get_point corners i c no_corner.exact at

  points_at : (ps : List ℕ) (cs : List Corner) → AreAt corners ps cs → map (λ i. (corner_at e i).exact) ps ≡ map point_of cs
  points_at [] [] a = refl
  points_at (p ∷ ps) (c ∷ cs) a = cons_same (point_at p c a.0) (points_at ps cs a.1)
    where
      cons_same : {x y : Point} {xs ys : List Point} → x ≡ y → xs ≡ ys → x ∷ xs ≡ y ∷ ys
      cons_same f g = λ i. f i ∷ g i
  points_at _ _ a = absurd a

  within_at : (ps : List ℕ) (cs : List Corner) → AreAt corners ps cs → Each (λ i. i < length e.corners) ps
  within_at [] [] a = tt
  within_at (p ∷ ps) (c ∷ cs) a = (moved p (length e.corners) (length corners) (same_count e corners same) (get_below corners p c a.0), within_at ps cs a.1)
    where
      moved : (i n m : ℕ) → n ≡ m → i < m → i < n
      moved i n m e h = omega arith
  within_at _ _ a = absurd a

  -- ---- the face of a cut piece
  ring_seen : (planes : List BookPlane) (f : Frag) (cuts : List CutSide) (b : Bool) → IsRing (support_of planes f) (map (outer_side planes) (flat_map edges_along cuts)) (map point_of (flat_map corners_along cuts))
      → IsRing (opposite (support_of planes f)) (rotated (reverse (map (outer_side planes) (flat_map edges_along cuts)))) (reverse (map point_of (flat_map corners_along cuts)))
      → IsRing (kept_side b (support_of planes f)) (map (outer_side planes) (edges_seen b (flat_map edges_along cuts))) (map point_of (corners_seen b (flat_map corners_along cuts)))
  ring_seen planes f cuts true front back = front
  ring_seen planes f cuts false front back =
      same_ring (opposite (support_of planes f)) (opposite (support_of planes f)) (rotated (reverse (map (outer_side planes) (flat_map edges_along cuts)))) (map (outer_side planes) (rotated (reverse (flat_map edges_along cuts))))
      (reverse (map point_of (flat_map corners_along cuts))) (map point_of (reverse (flat_map corners_along cuts))) refl
      (map-rotated (outer_side planes) (reverse (flat_map edges_along cuts)) ∙ ap rotated (map-reverse (outer_side planes) (flat_map edges_along cuts))) (map-reverse point_of (flat_map corners_along cuts)) back

  cut_full : (planes : List BookPlane) (cutting : List Corner) (o : OutFace) (face : Face) → IsCycle planes o.frag → IsCutFaceOf planes cutting corners o face → IsFull e face
  cut_full planes cutting o face cycle is =
      let cut = each_from_all (IsCutAt planes cutting o.frag.support) is.cuts is.cut in
      full_from_ring e face (all_from_each (λ i. i < length e.corners) face.corners (within_at face.corners (corners_seen o.front_out (flat_map corners_along is.cuts)) is.at))
      (same_ring (kept_side o.front_out (support_of planes o.frag)) face.plane (map (outer_side planes) (edges_seen o.front_out (flat_map edges_along is.cuts))) face.edges (map point_of (corners_seen o.front_out (flat_map corners_along is.cuts))) (face_points e face)
      is.plane is.edges (points_at face.corners (corners_seen o.front_out (flat_map corners_along is.cuts)) is.at)
      (ring_seen planes o.frag is.cuts o.front_out (cut_ring planes o.frag is.cuts cutting cycle is.of_piece cut) (turned_cut_ring planes o.frag is.cuts cutting cycle is.of_piece cut)))

  each_full : (planes : List BookPlane) (cutting : List Corner) (pieces : List OutFace) (faces : List Face) → Each (λ o. IsCycle planes o.frag) pieces → AllZip (IsCutFaceOf planes cutting corners) pieces faces → Each (IsFull e) faces
  each_full planes cutting [] [] cycles z = tt
  each_full planes cutting [] (f ∷ fs) cycles z = absurd z
  each_full planes cutting (o ∷ os) [] cycles z = absurd z
  each_full planes cutting (o ∷ os) (f ∷ fs) cycles z = (cut_full planes cutting o f cycles.0 z.0, each_full planes cutting os fs cycles.1 z.1)

-- in an element with the corners of the mesh its faces are full
pub faces_full : (planes : List BookPlane) (corners : List Corner) (pieces : List OutFace) (e : Element) → HasCorners e corners → All (λ o. IsCycle planes o.frag) pieces → AreCutFacesOf planes corners pieces e.faces → All (IsFull e) e.faces
faces_full planes corners pieces e same cycles are = all_from_each (IsFull e) e.faces (each_full e corners same planes corners pieces e.faces (each_from_all (λ o. IsCycle planes o.frag) pieces cycles) are)
