-- The printed element of the surface of an element.
use Rattle.std.proofs.Common.{◌≡◌, ◌≢◌, ◌⊎◌, inl, inr, ℕ, ◌<◌, ◌≤◌, ◌^◌, Bool, true, false, List, [], ◌∷◌, Some, map, length, slice_get, ℤ, neg_ℤ, unsigned_abs, All, sym, ap, ◌∙◌, subst, arith}
use Rattle.std.specs.List.{AllZip, AllPairs, Any, Contains, flat_map}
use Rattle.std.proofs.lemmas.Int.{ints}
use Rattle.std.proofs.lemmas.List.{length-map}
use Rattle.std.proofs.lemmas.Option.{slice_get_within}
use Rattle.spec_num.specs.Words.{within_128_bits}
use Rattle.spec_space.specs.declared.Plane.{Plane}
use Rattle.spec_space.specs.Points.{opposite}
use Rattle.spec_space.specs.Reduced.{IsReduced}
use Rattle.spec_solid.specs.Solids.{Body}
use Rattle.spec_solid.specs.Planes.{IsPlaneOf}
use Rattle.spec_place.specs.declared.transform.Transform.{Transform}
use Rattle.spec_page.specs.declared.Corner.{Corner as PageCorner}
use Rattle.spec_page.specs.Element.{Face, Element}
use Rattle.spec_page.specs.World.{rounded_image, printed_volume}
use Rattle.spec_headline.specs.Headline.{IsPrintOf}
use Rattle.spec_place.specs.Transforms.{IsFrame}
use Rattle.spec_headline.specs.Reduced.{IsCornerWithin, IsPrintedPlane}
use Rattle.plane_core.specs.declared.numbers.Plane.{Plane as BookPlane}
use Rattle.plane_core.specs.declared.numbers.Corner.{Corner}
use Rattle.plane_core.specs.Views.{plane_of, point_of}
use Rattle.corner_book.proofs.Same.{same_corner}
use Rattle.plane_core.proofs.Laws.{reduced_is_reduced}
use Rattle.grid_solid.specs.Bodies.{body_of}
use Rattle.grid_solid.specs.declared.solids.GridSolid.{GridSolid}
use Rattle.ifc_kinds.specs.declared.kind.Kind.{Kind}
use Rattle.convex_cycles.proofs.Lists.{Each, EachPair, each_from_all, all_from_each, each_weaker, each_map, each_from_map, each_append, pair_from_all, all_from_pair}
use Rattle.poly_frag.specs.Frags.{numbered, kept_side, side_of, support_of}
use Rattle.poly_frag.specs.Cycles.{IsCycle}
use Rattle.poly_frag.specs.declared.frag.Edge.{Edge}
use Rattle.tree_pool.specs.Trees.{Tree}
use Rattle.solid_tree.specs.Elements.{IsElementTree}
use Rattle.face_walk.specs.declared.faces.OutFace.{OutFace}
use Rattle.face_walk.specs.Faces.{IsFace, IsOfBook}
use Rattle.exact_mesh.specs.Meshes.{face_of}
use Rattle.exact_mesh.specs.declared.mesh.ExactMesh.{ExactMesh}
use Rattle.world_print.specs.Elements.{element_of, IsMeshOf}
use Rattle.world_print.specs.declared.element.ElementMesh.{ElementMesh}
use Rattle.world_print.proofs.Prints.{exact_corners}
use Rattle.edge_cut.specs.Seen.{outer_side, edges_seen}
use Rattle.edge_cut.proofs.Reversed.{each_seen}
use Rattle.edge_cut.specs.Cuts.{CutSide, edges_along, corners_along, IsCutFaceOf}
use Rattle.edge_laws.proofs.Balance.{edge_count_balance}
use Rattle.edge_laws.proofs.Full.{HasCorners, faces_full}
use Rattle.element_mesh.specs.Surfaces.{IsSurfaceOf}
use Rattle.element_mesh.proofs.Boundary.{given_plane, boundary_shown}
use Rattle.element_mesh.proofs.Reach.{face_using}

-- ---- planes
twice : (h : Plane) → opposite (opposite h) ≡ h
twice h = λ i. record { a = back h.a i; b = back h.b i; c = back h.c i; d = back h.d i }
  where
    back : (x : ℤ) → neg_ℤ (neg_ℤ x) ≡ x
    back x = omega (arith, ints)

size_turned : (x : ℤ) (n : ℕ) → unsigned_abs x ≤ n → unsigned_abs (neg_ℤ x) ≤ n
size_turned x n h = omega (arith, ints)

printed_turned : (h : Plane) → IsPrintedPlane h → IsPrintedPlane (opposite h)
printed_turned h is = record {
  reduced = elim is.reduced [ inl r ↦ inr (subst IsReduced (sym (twice h)) r) | inr r ↦ inl r ];
  a = size_turned h.a (2 ^ 26) is.a;
  b = size_turned h.b (2 ^ 26) is.b;
  c = size_turned h.c (2 ^ 26) is.c;
  d = size_turned h.d (2 ^ 44) is.d;
}

printed_kept : (front : Bool) (h : Plane) → IsPrintedPlane h → IsPrintedPlane (kept_side front h)
printed_kept true h is = is
printed_kept false h is = printed_turned h is

printed_numbered : (planes : List BookPlane) (k : ℕ) → k < length planes → IsPrintedPlane (numbered (slice_get planes k))
printed_numbered planes k below =
    let b = given_plane planes k below in
    subst IsPrintedPlane (sym (ap numbered b.1)) (record { reduced = inl (reduced_is_reduced b.0); a = b.0.a_small; b = b.0.b_small; c = b.0.c_small; d = b.0.d_small })

printed_edge : (planes : List BookPlane) (e : Edge) → e.plane.k < length planes → IsPrintedPlane (outer_side planes e)
printed_edge planes e below = printed_turned (side_of planes e) (printed_kept e.keep_front (numbered (slice_get planes e.plane.k)) (printed_numbered planes e.plane.k below))

-- what holds of each edge holds of each part of it
all_parts : (P : Edge → Type 0) (ks : List CutSide) → Each P (map (λ s. s.edge) (map (λ k. k.side) ks)) → Each P (flat_map edges_along ks)
all_parts P [] h = tt
all_parts P (k ∷ ks) h = each_append P (edges_along k) (flat_map edges_along ks) (one (corners_along k) h.0) (all_parts P ks h.1)
  where
    one : (cs : List Corner) → P k.side.edge → Each P (map (λ c. k.side.edge) cs)
    one [] p = tt
    one (c ∷ cs) p = (p, one cs p)

face_reduced : (planes : List BookPlane) (corners : List Corner) (o : OutFace) (f : Face) → IsCycle planes o.frag → IsCutFaceOf planes corners corners o f → All IsPrintedPlane (f.plane ∷ f.edges)
face_reduced planes corners o f cycle is = all_from_each IsPrintedPlane (f.plane ∷ f.edges) (
  subst IsPrintedPlane (sym is.plane) (printed_kept o.front_out (support_of planes o.frag) (printed_numbered planes o.frag.support.k cycle.support_given)),
  subst (Each IsPrintedPlane) (sym is.edges)
      (each_map IsPrintedPlane (outer_side planes) (edges_seen o.front_out (flat_map edges_along is.cuts))
      (each_seen (λ e. IsPrintedPlane (outer_side planes e)) o.front_out (flat_map edges_along is.cuts)
      (all_parts (λ e. IsPrintedPlane (outer_side planes e)) is.cuts
      (subst (Each (λ e. IsPrintedPlane (outer_side planes e))) (sym is.of_piece.edges)
      (each_weaker (λ e. e.plane.k < length planes) (λ e. IsPrintedPlane (outer_side planes e)) (printed_edge planes) o.frag.edges.items
      (each_from_all (λ e. e.plane.k < length planes) o.frag.edges.items cycle.edges_given)))))),
)

kept_plane : (body : Body) (front : Bool) (h g : Plane) → g ≡ kept_side front h → IsPlaneOf body h → IsPlaneOf body g ⊎ IsPlaneOf body (opposite g)
kept_plane body true h g e is = inl (subst (IsPlaneOf body) (sym e) is)
kept_plane body false h g e is = inr (subst (IsPlaneOf body) (sym (ap opposite e ∙ twice h)) is)

face_plane : (planes : List BookPlane) (body : Body) (t : Tree) → IsElementTree planes body t → (corners : List Corner) (o : OutFace) (f : Face) → IsFace planes t o → IsCutFaceOf planes corners corners o f
    → IsPlaneOf body f.plane ⊎ IsPlaneOf body (opposite f.plane)
face_plane planes body t means corners o f face is = kept_plane body o.front_out (support_of planes o.frag) f.plane is.plane (by (means.among o.frag.support.k face.support))
  where
    by : ((b : BookPlane) × (slice_get planes o.frag.support.k ≡ Some b) × IsPlaneOf body (plane_of b)) → IsPlaneOf body (support_of planes o.frag)
    by (b, at, is) = subst (IsPlaneOf body) (sym (ap numbered at)) is

-- ---- faces side by side with pieces
each_face : {A B : Type 0} (P : A → Type 0) (R : A → B → Type 0) (Q : B → Type 0) → ((a : A) (b : B) → P a → R a b → Q b) → (os : List A) (fs : List B) → Each P os → AllZip R os fs → Each Q fs
each_face P R Q h [] [] e z = tt
each_face P R Q h [] (f ∷ fs) e z = absurd z
each_face P R Q h (o ∷ os) [] e z = absurd z
each_face P R Q h (o ∷ os) (f ∷ fs) e z = (h o f e.0 z.0, each_face P R Q h os fs e.1 z.1)

-- ---- corners
one_point : (c d : Corner) → point_of c ≡ point_of d → c ≡ d
one_point c d e = same_corner c d (ap (λ p. p.x) e) (ap (λ p. p.y) e) (ap (λ p. p.z) e) (ap (λ p. p.w) e)

points_differ : (cs : List Corner) → EachPair (λ c d. c ≢ d) cs → EachPair (λ p q. p ≢ q) (map point_of cs)
points_differ [] e = tt
points_differ (c ∷ cs) e = (
  each_map (λ q. point_of c ≢ q) point_of cs (each_weaker (λ d. c ≢ d) (λ d. point_of c ≢ point_of d) (λ d apart same. apart (one_point c d same)) cs e.0),
  points_differ cs e.1,
)

exacts_differ : (cs : List PageCorner) → EachPair (λ p q. p ≢ q) (map (λ (c : PageCorner). c.exact) cs) → EachPair (λ c d. c.exact ≢ d.exact) cs
exacts_differ [] e = tt
exacts_differ (c ∷ cs) e = (each_from_map (λ q. c.exact ≢ q) (λ (c : PageCorner). c.exact) cs e.0, exacts_differ cs e.1)

-- the planes of the tree are in the book
pub tree_of_book : (planes : List BookPlane) (body : Body) (t : Tree) → IsElementTree planes body t → IsOfBook planes t
tree_of_book planes body t means k has = by (means.among k has)
  where
    by : ((b : BookPlane) × (slice_get planes k ≡ Some b) × IsPlaneOf body (plane_of b)) → k < length planes
    by (b, at, is) = slice_get_within planes k b at

-- ---- the print
module _ (s : GridSolid) (number : ℕ) (kind : Kind) (frame : Transform) (step : ℕ) (mesh : ExactMesh) (surface : IsSurfaceOf (body_of s) mesh) (m : ElementMesh) (kept : IsMeshOf number kind frame step mesh m)
    (rounded : All (λ c. c.printed ≡ rounded_image frame step c.exact) (element_of m).corners) (framed : IsFrame (element_of m).frame) (limits : All IsCornerWithin (element_of m).corners) (volume : m.six ≡ within_128_bits (printed_volume (element_of m))) where
  abbrev e : Element
  e = element_of m

  abbrev corners : List Corner
  corners = mesh.corners.items

  abbrev planes : List BookPlane
  planes = surface.planes

  abbrev pieces : List OutFace
  pieces = surface.pieces

  abbrev tree : Tree
  tree = surface.of_body.tree

  abbrev means : IsElementTree planes (body_of s) tree
  means = surface.of_body.means

  has_corners : HasCorners e corners
  has_corners = exact_corners m.mesh.corners.items m.printed.items m.paired ∙ ap (λ (x : ExactMesh). map point_of x.corners.items) kept.mesh_kept

  cut : AllZip (IsCutFaceOf planes corners corners) pieces e.faces
  cut = subst (λ (x : ExactMesh). AllZip (IsCutFaceOf planes corners corners) pieces (map face_of x.faces.items)) (sym kept.mesh_kept) surface.cut

  are : All (IsFace planes tree) pieces
  are = surface.of_body.faces.faces

  each_are : Each (IsFace planes tree) pieces
  each_are = each_from_all (IsFace planes tree) pieces are

  cycles : All (λ o. IsCycle planes o.frag) pieces
  cycles = all_from_each (λ o. IsCycle planes o.frag) pieces (each_weaker (IsFace planes tree) (λ o. IsCycle planes o.frag) (λ o is. is.fragment.cycle) pieces each_are)

  different : AllPairs (λ c d. c.exact ≢ d.exact) e.corners
  different = all_from_pair (λ c d. c.exact ≢ d.exact) e.corners (exacts_differ e.corners
      (subst (EachPair (λ p q. p ≢ q)) (sym has_corners) (points_differ corners (pair_from_all (λ c d. c ≢ d) corners surface.different))))

  used : (i : ℕ) → i < length e.corners → Any (λ f. Contains f.corners i) e.faces
  used i below = subst (λ (x : ExactMesh). Any (λ f. Contains f.corners i) (map face_of x.faces.items)) (sym kept.mesh_kept)
      (face_using corners (map face_of mesh.faces.items) surface.order i (fewer (length e.corners) (length corners) counts below))
    where
      counts : length e.corners ≡ length corners
      counts = sym (length-map e.corners (λ (c : PageCorner). c.exact)) ∙ ap length has_corners ∙ length-map corners point_of

      fewer : (n k : ℕ) → n ≡ k → i < n → i < k
      fewer n k same h = omega arith

  pub print_of : IsPrintOf (body_of s) step e
  print_of = record {
    rounded = subst (λ t. All (λ c. c.printed ≡ rounded_image t step c.exact) e.corners) (sym kept.frame_kept) rounded;
    frame = framed;
    corners = limits;
    volume = volume;
    full = faces_full planes corners pieces e has_corners cycles cut;
    planes = all_from_each (λ f. IsPlaneOf (body_of s) f.plane ⊎ IsPlaneOf (body_of s) (opposite f.plane)) e.faces
        (each_face (IsFace planes tree) (IsCutFaceOf planes corners corners) (λ f. IsPlaneOf (body_of s) f.plane ⊎ IsPlaneOf (body_of s) (opposite f.plane))
        (face_plane planes (body_of s) tree means corners) pieces e.faces each_are cut);
    reduced = all_from_each (λ f. All IsPrintedPlane (f.plane ∷ f.edges)) e.faces
        (each_face (IsFace planes tree) (IsCutFaceOf planes corners corners) (λ f. All IsPrintedPlane (f.plane ∷ f.edges))
        (λ o f is c. face_reduced planes corners o f is.fragment.cycle c) pieces e.faces each_are cut);
    boundary = λ h p point alone. boundary_shown planes s pieces surface.of_body h p point alone corners e.faces cut;
    edges = edge_count_balance planes tree pieces corners e.faces surface.of_body.distinct (tree_of_book planes (body_of s) tree means) surface.of_body.faces cut surface.different;
    different = different;
    used = used;
  }
