-- The corners of the mesh of an element: each is used by a face, and lies on the grid.
use Rattle.std.proofs.Common.{◌≡◌, ◌⊎◌, inl, inr, ℕ, zero, suc, ◌*◌, ◌<◌, ◌≤◌, ◌^◌, Bool, true, false, List, [], ◌∷◌, ◌++◌, Some, map, length, slice_get, Contains, All, ℤ, pos, negsuc, ◌*ℤ◌, ◌<ℤ◌, ◌≤ℤ◌, neg_ℤ, unsigned_abs, refl, sym, ap, ◌∙◌, subst, arith}
use Rattle.std.specs.List.{AllZip, Any, flat_map}
use Rattle.std.proofs.lemmas.Int.{ints}
use Rattle.std.proofs.lemmas.Option.{slice_get_within}
use Rattle.spec_space.specs.declared.Plane.{Plane}
use Rattle.spec_space.specs.declared.Point.{Point}
use Rattle.spec_space.specs.Points.{value}
use Rattle.spec_page.specs.Element.{Face}
use Rattle.spec_page.specs.Faces.{rotated, IsEdge}
use Rattle.plane_core.specs.declared.numbers.Plane.{Plane as BookPlane}
use Rattle.plane_core.specs.declared.numbers.Corner.{Corner}
use Rattle.plane_core.specs.Views.{point_of}
use Rattle.convex_cycles.proofs.Hull.{value-opposite}
use Rattle.convex_cycles.proofs.Lists.{Each, each_from_all, all_from_each, each_weaker, each_map, each_from_map, each_split}
use Rattle.poly_frag.specs.Frags.{side_of, sides_of, support_of, IsIn}
use Rattle.poly_frag.specs.declared.frag.Edge.{Edge}
use Rattle.tree_pool.specs.Trees.{Tree}
use Rattle.face_walk.specs.declared.faces.OutFace.{OutFace}
use Rattle.face_walk.specs.Faces.{IsFace}
use Rattle.exact_mesh.specs.Meshes.{face_of}
use Rattle.exact_mesh.specs.Order.{AreInFirstUse}
use Rattle.exact_mesh.specs.declared.mesh.MeshFace.{MeshFace}
use Rattle.world_print.specs.Ranges.{IsOnGrid}
use Rattle.edge_cut.specs.Seen.{outer_side, corners_seen, AreAt}
use Rattle.edge_cut.specs.Cuts.{CutSide, edges_along, corners_along, IsCutAt, IsCutFaceOf}
use Rattle.edge_cut.proofs.FirstUse.{each_named}
use Rattle.edge_cut.proofs.Reversed.{each_reverse}
use Rattle.edge_laws.proofs.FrontRings.{IsRing}
use Rattle.edge_laws.proofs.Rings.{cut_ring}
use Rattle.edge_laws.proofs.Rows.{Rows}

-- ---- each corner is used
contains_cases : (xs ys : List ℕ) (i : ℕ) → Contains (xs ++ ys) i → Contains xs i ⊎ Contains ys i
contains_cases [] ys i c = inr c
contains_cases (x ∷ xs) ys i (zero, h, e) = inl (0, omega arith, e)
contains_cases (x ∷ xs) ys i (suc k, h, e) = elim (contains_cases xs ys i (k, omega arith, e)) [
  | inl c ↦ inl (suc c.0, omega (arith, c.1), c.2)
  | inr c ↦ inr c
]

face_with : (faces : List Face) (i : ℕ) → Contains (flat_map (λ f. f.corners) faces) i → Any (λ f. Contains f.corners i) faces
face_with [] i (k, h, e) = absurd (omega arith)
face_with (f ∷ fs) i c = elim (contains_cases f.corners (flat_map (λ f. f.corners) fs) i c) [
  | inl here ↦ (0, f, omega arith, refl, here)
  | inr later ↦ next (face_with fs i later)
]
  where
    next : Any (λ f. Contains f.corners i) fs → Any (λ f. Contains f.corners i) (f ∷ fs)
    next (k, g, h, e, c) = (suc k, g, omega arith, e, c)

-- each corner is a corner of some face
pub face_using : (corners : List Corner) (faces : List Face) → AreInFirstUse corners faces → (i : ℕ) → i < length corners → Any (λ f. Contains f.corners i) faces
face_using corners faces order i below = elim (each_named (flat_map (λ f. f.corners) faces) 0 (length corners) i order below) [
  | inl none ↦ absurd (omega arith)
  | inr there ↦ face_with faces i there
]

-- ---- the places of faces
at_below : (corners : List Corner) (ps : List ℕ) (cs : List Corner) → AreAt corners ps cs → Each (λ i. i < length corners) ps
at_below corners [] cs a = tt
at_below corners (p ∷ ps) [] a = absurd a
at_below corners (p ∷ ps) (c ∷ cs) a = (slice_get_within corners p c a.0, at_below corners ps cs a.1)

-- each corner of each face is one of the mesh
pub places_below : (planes : List BookPlane) (corners : List Corner) (os : List OutFace) (fs : List MeshFace) → AllZip (IsCutFaceOf planes corners corners) os (map face_of fs) → Each (λ f. All (λ i. i < length corners) f.corners.items) fs
places_below planes corners [] [] z = tt
places_below planes corners [] (f ∷ fs) z = absurd z
places_below planes corners (o ∷ os) [] z = absurd z
places_below planes corners (o ∷ os) (f ∷ fs) z = (
  all_from_each (λ i. i < length corners) f.corners.items (at_below corners f.corners.items (corners_seen o.front_out (flat_map corners_along z.0.cuts)) z.0.at),
  places_below planes corners os fs z.1,
)

at_place : (corners : List Corner) (ps : List ℕ) (cs : List Corner) (P : Corner → Type 0) → AreAt corners ps cs → Each P cs → (i : ℕ) → Contains ps i → (c : Corner) → slice_get corners i ≡ Some c → P c
at_place corners [] cs P a each i (k, h, e) c at = absurd (omega arith)
at_place corners (p ∷ ps) [] P a each i there c at = absurd a
at_place corners (p ∷ ps) (d ∷ cs) P a each i (zero, h, e) c at = subst P (same_some d c (sym a.0 ∙ ap (slice_get corners) e ∙ at)) each.0
  where
    same_some : (d c : Corner) → Some d ≡ Some c → d ≡ c
    same_some d c e = cc
at_place corners (p ∷ ps) (d ∷ cs) P a each i (suc k, h, e) c at = at_place corners ps cs P a.1 each.1 i (k, omega arith, e) c at

-- ---- the corners of a cut piece are in the piece
behind_rows : (h : Plane) (points : List Point) (ms : List Plane) (us vs : List Point) → Rows (λ m u v. IsEdge h m u v points) ms us vs → Each (λ m. Each (λ p. value m p ≤ℤ pos 0) points) ms
behind_rows h points [] [] [] r = tt
behind_rows h points (m ∷ ms) (u ∷ us) (v ∷ vs) r = (each_from_all (λ p. value m p ≤ℤ pos 0) points r.0.behind, behind_rows h points ms us vs r.1)
behind_rows h points _ _ _ r = absurd r

-- what holds of each part of each edge holds of each edge
from_parts : (P : Edge → Type 0) (ks : List CutSide) → Each P (flat_map edges_along ks) → Each P (map (λ s. s.edge) (map (λ k. k.side) ks))
from_parts P [] h = tt
from_parts P (k ∷ ks) h = let parts = each_split P (edges_along k) (flat_map edges_along ks) h in (parts.0.0, from_parts P ks parts.1)

swapped : {X Y : Type 0} (R : X → Y → Type 0) (xs : List X) (ys : List Y) → Each (λ x. Each (R x) ys) xs → Each (λ y. Each (λ x. R x y) xs) ys
swapped R xs [] h = tt
swapped R xs (y ∷ ys) h = (each_weaker (λ x. Each (R x) (y ∷ ys)) (λ x. R x y) (λ x r. r.0) xs h, swapped R xs ys (each_weaker (λ x. Each (R x) (y ∷ ys)) (λ x. Each (R x) ys) (λ x r. r.1) xs h))

kept_from_outer : (x y : ℤ) → y ≡ neg_ℤ x → y ≤ℤ pos 0 → pos 0 ≤ℤ x
kept_from_outer x y e h = omega (arith, ints)

module _ (planes : List BookPlane) (t : Tree) (corners : List Corner) (o : OutFace) (f : Face) (face : IsFace planes t o) (is : IsCutFaceOf planes corners corners o f) where
  abbrev points : List Point
  points = map point_of (flat_map corners_along is.cuts)

  abbrev IsKept : Point → Edge → Type 0
  IsKept p e = pos 0 ≤ℤ value (side_of planes e) p

  ring : IsRing (support_of planes o.frag) (map (outer_side planes) (flat_map edges_along is.cuts)) points
  ring = cut_ring planes o.frag is.cuts corners face.fragment.cycle is.of_piece (each_from_all (IsCutAt planes corners o.frag.support) is.cuts is.cut)

  kept_parts : Each (λ p. Each (IsKept p) (flat_map edges_along is.cuts)) points
  kept_parts =
      let edges = flat_map edges_along is.cuts in
      swapped (λ e p. IsKept p e) edges points
      (each_weaker (λ e. Each (λ p. value (outer_side planes e) p ≤ℤ pos 0) points) (λ e. Each (λ p. IsKept p e) points)
      (λ e h. each_weaker (λ p. value (outer_side planes e) p ≤ℤ pos 0) (λ p. IsKept p e) (λ p l. kept_from_outer (value (side_of planes e) p) (value (outer_side planes e) p) (value-opposite (side_of planes e) p) l) points h) edges
      (each_from_map (λ m. Each (λ p. value m p ≤ℤ pos 0) points) (outer_side planes) edges
      (behind_rows (support_of planes o.frag) points (map (outer_side planes) edges) points (rotated points) ring.along)))

  touching : (p : Point) → Each (IsKept p) (flat_map edges_along is.cuts) → value (support_of planes o.frag) p ≡ pos 0 → IsIn planes o.frag p
  touching p kept on = (
    on,
    all_from_each (λ h. pos 0 ≤ℤ value h p) (sides_of planes o.frag) (each_map (λ h. pos 0 ≤ℤ value h p) (side_of planes) o.frag.edges.items
        (subst (Each (IsKept p)) is.of_piece.edges (from_parts (IsKept p) is.cuts kept))),
  )

  on_grid : (c : Corner) → IsIn planes o.frag (point_of c) → IsOnGrid c
  on_grid c i = let r = face.in_range (point_of c) c.positive i in record { x = size c.x c.w c.positive r.x_low r.x_high; y = size c.y c.w c.positive r.y_low r.y_high; z = size c.z c.w c.positive r.z_low r.z_high }
    where
      size : (x w : ℤ) → pos 0 <ℤ w → (negsuc 1048575 *ℤ w) ≤ℤ x → x ≤ℤ (pos 1048576 *ℤ w) → unsigned_abs x ≤ 2 ^ 20 * unsigned_abs w
      size x w positive low high = omega (arith, ints)

  grid_along : Each IsOnGrid (flat_map corners_along is.cuts)
  grid_along =
      let cs = flat_map corners_along is.cuts in
      all_in cs (each_from_map (λ p. Each (IsKept p) (flat_map edges_along is.cuts)) point_of cs kept_parts) (each_from_map (λ p. value (support_of planes o.frag) p ≡ pos 0) point_of cs ring.flat)
    where
      all_in : (cs : List Corner) → Each (λ c. Each (IsKept (point_of c)) (flat_map edges_along is.cuts)) cs → Each (λ c. value (support_of planes o.frag) (point_of c) ≡ pos 0) cs → Each IsOnGrid cs
      all_in [] kept on = tt
      all_in (c ∷ cs) kept on = (on_grid c (touching (point_of c) kept.0 on.0), all_in cs kept.1 on.1)

  grid_seen : (b : Bool) (cs : List Corner) → Each IsOnGrid cs → Each IsOnGrid (corners_seen b cs)
  grid_seen true cs e = e
  grid_seen false cs e = each_reverse IsOnGrid cs e

  -- a corner at a place of the face lies on the grid
  place_on_grid : (i : ℕ) → Contains f.corners i → (c : Corner) → slice_get corners i ≡ Some c → IsOnGrid c
  place_on_grid = at_place corners f.corners (corners_seen o.front_out (flat_map corners_along is.cuts)) IsOnGrid is.at (grid_seen o.front_out (flat_map corners_along is.cuts) grid_along)

-- ---- all corners
module _ (planes : List BookPlane) (t : Tree) (corners : List Corner) where
  used_on_grid : (os : List OutFace) (fs : List Face) → Each (IsFace planes t) os → AllZip (IsCutFaceOf planes corners corners) os fs → (i : ℕ) → Any (λ f. Contains f.corners i) fs → (c : Corner) → slice_get corners i ≡ Some c → IsOnGrid c
  used_on_grid [] [] is z i (k, g, h, e, there) c at = absurd (omega arith)
  used_on_grid [] (f ∷ fs) is z i any c at = absurd z
  used_on_grid (o ∷ os) [] is z i any c at = absurd z
  used_on_grid (o ∷ os) (f ∷ fs) is z i (zero, g, h, e, there) c at = place_on_grid planes t corners o f is.0 z.0 i (subst (λ g. Contains g.corners i) (sym e) there) c at
  used_on_grid (o ∷ os) (f ∷ fs) is z i (suc k, g, h, e, there) c at = used_on_grid os fs is.1 z.1 i (k, g, omega arith, e, there) c at

  pub all_on_grid : (os : List OutFace) (fs : List Face) → All (IsFace planes t) os → AllZip (IsCutFaceOf planes corners corners) os fs → AreInFirstUse corners fs → All IsOnGrid corners
  all_on_grid os fs is z order = all_from_each IsOnGrid corners (each_placed corners
      (λ i c at. used_on_grid os fs (each_from_all (IsFace planes t) os is) z i (face_using corners fs order i (slice_get_within corners i c at)) c at))
    where
      each_placed : (cs : List Corner) → ((i : ℕ) (c : Corner) → slice_get cs i ≡ Some c → IsOnGrid c) → Each IsOnGrid cs
      each_placed [] h = tt
      each_placed (c ∷ cs) h = (h 0 c refl, each_placed cs (λ i d at. h (suc i) d at))
