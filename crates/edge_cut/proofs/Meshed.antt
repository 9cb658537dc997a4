-- A mesh, made face by face; its corners are those of the pieces.
use Rattle.std.proofs.Common.{◌≡◌, ◌⊎◌, inl, inr, ℕ, ◌+◌, ◌<◌, ◌≤◌, Bool, true, false, List, [], ◌∷◌, ◌++◌, Some, map, reverse, take, length, slice_get, get_or, All, Contains, Result, Ok, Err, IfOk, sym, ap, ap₂, ◌∙◌, subst, arith}
use Rattle.std.specs.Prelude.{◌↔◌}
use Rattle.std.specs.List.{AllZip, flat_map}
use Rattle.std.proofs.lemmas.List.{take_more, take_all, reverse-reverse}
use Rattle.std.proofs.lemmas.Option.{slice_get-get_or, slice_get_within}
use Rattle.std.specs.declared.alloc.AllocError.{AllocError}
use Rattle.spec_page.specs.Element.{Face}
use Rattle.plane_core.specs.declared.numbers.Plane.{Plane as BookPlane}
use Rattle.plane_core.specs.declared.numbers.Corner.{Corner}
use Rattle.plane_core.specs.declared.book.PlaneId.{PlaneId}
use Rattle.convex_cycles.proofs.Lists.{Each, Member, each_from_all, all_from_each, each_append, each_weaker, member_left, member_right}
use Rattle.poly_frag.specs.Frags.{plane_at, kept_side}
use Rattle.poly_frag.specs.Cycles.{IsCycle}
use Rattle.poly_frag.proofs.CornerSigns.{contains_member, member_contains}
use Rattle.face_walk.specs.declared.faces.OutFace.{OutFace}
use Rattle.poly_frag.specs.declared.frag.Edge.{Edge}
use Rattle.exact_mesh.specs.Meshes.{face_of}
use Rattle.exact_mesh.specs.Order.{AreInFirstUse}
use Rattle.exact_mesh.specs.declared.mesh.ExactMesh.{ExactMesh}
use Rattle.edge_cut.specs.Seen.{outer_side, edges_seen, corners_seen, AreAt}
use Rattle.edge_cut.proofs.Places.{at_append}
use Rattle.edge_cut.proofs.Reversed.{each_seen, member_reverse}
use Rattle.edge_cut.proofs.FirstUse.{each_named}
use Rattle.edge_cut.specs.declared.sides.Outline.{Outline}
use Rattle.edge_cut.specs.declared.round.Round.{Round}
use Rattle.edge_cut.specs.Sides.{AreSides}
use Rattle.edge_cut.specs.Cuts.{CutSide, edges_along, corners_along, IsCutFaceOf, AreCutFacesOf}
use Rattle.edge_cut.specs.Outlines.{IsOutlineOf, IsSideOfBook, IsOfBook, starts_of, HasCorners}
use Rattle.edge_cut.specs.Rounds.{IsCut, IsRoundOf, IsFaceOf, IsGrown}
use Rattle.edge_cut.proofs.Outlined.{outline-IsOfBook}
use Rattle.edge_cut.proofs.Cutting.{cuts-AreCut}

-- ---- lists side by side
zip_push : {A B : Type 0} (R : A → B → Type 0) (xs : List A) (ys : List B) (x : A) (y : B) → AllZip R xs ys → R x y → AllZip R (xs ++ x ∷ []) (ys ++ y ∷ [])
zip_push R [] [] x y z r = (r, tt)
zip_push R [] (b ∷ ys) x y z r = absurd z
zip_push R (a ∷ xs) [] x y z r = absurd z
zip_push R (a ∷ xs) (b ∷ ys) x y z r = (z.0, zip_push R xs ys x y z.1 r)

zip_weaker : {A B : Type 0} (R Q : A → B → Type 0) → ((x : A) (y : B) → R x y → Q x y) → (xs : List A) (ys : List B) → AllZip R xs ys → AllZip Q xs ys
zip_weaker R Q h [] [] z = tt
zip_weaker R Q h [] (b ∷ ys) z = absurd z
zip_weaker R Q h (a ∷ xs) [] z = absurd z
zip_weaker R Q h (a ∷ xs) (b ∷ ys) z = (h a b z.0, zip_weaker R Q h xs ys z.1)

pub zip_next : {A B : Type 0} (R : A → B → Type 0) (xs : List A) (i : ℕ) (x : A) (old new : List B) (y : B) → i < length xs → x ≡ get_or xs i x → new ≡ old ++ y ∷ [] → R x y → AllZip R (take i xs) old → AllZip R (take (i + 1) xs) new
zip_next R xs i x old new y below at items r z =
    subst (λ ls. AllZip R ls new) (sym (take_more xs i x below ∙ ap (λ a. take i xs ++ a ∷ []) (sym at)))
    (subst (AllZip R (take i xs ++ x ∷ [])) (sym items) (zip_push R (take i xs) old x y z r))

pub zip_all : {A B : Type 0} (R : A → B → Type 0) (xs : List A) (i : ℕ) (ys : List B) → length xs ≤ i → AllZip R (take i xs) ys → AllZip R xs ys
zip_all R xs i ys all z = subst (λ ls. AllZip R ls ys) (take_all i xs all) z

-- ---- one face more
face_grown : (planes : List BookPlane) (cutting old new : List Corner) (w : Outline) (face : Face) → IsGrown old new → IsFaceOf planes cutting old w face → IsFaceOf planes cutting new w face
face_grown planes cutting old new w face grown is = record {
  plane = is.plane;
  cuts = is.cuts;
  sides = is.sides;
  cut = is.cut;
  edges = is.edges;
  at = subst (λ cs. AreAt cs face.corners (corners_seen w.front_out (flat_map corners_along is.cuts))) (sym grown.1) (at_append old grown.0 face.corners (corners_seen w.front_out (flat_map corners_along is.cuts)) is.at);
}

pub faces_next : (planes : List BookPlane) (cutting old new : List Corner) (outlines : List Outline) (i : ℕ) (w : Outline) (before next : List Face) (face : Face) → i < length outlines → w ≡ get_or outlines i w → IsGrown old new
    → next ≡ before ++ face ∷ [] → IsFaceOf planes cutting new w face → AllZip (IsFaceOf planes cutting old) (take i outlines) before → AllZip (IsFaceOf planes cutting new) (take (i + 1) outlines) next
faces_next planes cutting old new outlines i w before next face below at grown items is z =
    zip_next (IsFaceOf planes cutting new) outlines i w before next face below at items is
    (zip_weaker (IsFaceOf planes cutting old) (IsFaceOf planes cutting new) (λ v f r. face_grown planes cutting old new v f grown r) (take i outlines) before z)

-- ---- outlines of the book
outlines_each : (planes : List BookPlane) (pieces : List OutFace) (outlines : List Outline) → Each (λ o. IsCycle planes o.frag) pieces → AllZip (IsOutlineOf planes) pieces outlines → Each (IsOfBook planes) outlines
outlines_each planes [] [] c z = tt
outlines_each planes [] (w ∷ ws) c z = absurd z
outlines_each planes (o ∷ os) [] c z = absurd z
outlines_each planes (o ∷ os) (w ∷ ws) c z = (outline-IsOfBook planes o w c.0 z.0, outlines_each planes os ws c.1 z.1)

pub outlines_of_book : (planes : List BookPlane) (pieces : List OutFace) (outlines : List Outline) → All (λ o. IsCycle planes o.frag) pieces → AllZip (IsOutlineOf planes) pieces outlines → All (IsOfBook planes) outlines
outlines_of_book planes pieces outlines cycles z = all_from_each (IsOfBook planes) outlines (outlines_each planes pieces outlines (each_from_all (λ o. IsCycle planes o.frag) pieces cycles) z)

-- ---- members
member_cases : {X : Type 0} (x : X) (xs ys : List X) → Member x (xs ++ ys) → Member x xs ⊎ Member x ys
member_cases x [] ys m = inr m
member_cases x (z ∷ xs) ys (inl same) = inl (inl same)
member_cases x (z ∷ xs) ys (inr m) = elim (member_cases x xs ys m) [
  | inl there ↦ inl (inr there)
  | inr there ↦ inr there
]

pub seen_member : (front_out : Bool) (c : Corner) (cs : List Corner) → Member c cs → Member c (corners_seen front_out cs)
seen_member true c cs m = m
seen_member false c cs m = member_reverse c cs m

member_seen : (front_out : Bool) (c : Corner) (cs : List Corner) → Member c (corners_seen front_out cs) → Member c cs
member_seen true c cs m = m
member_seen false c cs m = subst (Member c) (reverse-reverse cs) (member_reverse c (reverse cs) m)

same_some : (c d : Corner) → Some c ≡ Some d → c ≡ d
same_some c d e = cc

here_contains : (cs : List Corner) (i : ℕ) (c : Corner) → slice_get cs i ≡ Some c → Contains cs c
here_contains cs i c e = let h = slice_get_within cs i c e in (i, h, same_some (get_or cs i c) c (sym (slice_get-get_or cs i c h) ∙ e))

at_contains : (corners : List Corner) (ps : List ℕ) (cs : List Corner) (c : Corner) → AreAt corners ps cs → Member c cs → Contains corners c
at_contains corners [] [] c a m = absurd m
at_contains corners (p ∷ ps) (d ∷ cs) c a (inl same) = here_contains corners p c (a.0 ∙ ap Some (sym same))
at_contains corners (p ∷ ps) (d ∷ cs) c a (inr m) = at_contains corners ps cs c a.1 m
at_contains corners _ _ c a m = absurd a

at_member : (corners : List Corner) (ps : List ℕ) (cs : List Corner) (i : ℕ) (c : Corner) → AreAt corners ps cs → Member i ps → slice_get corners i ≡ Some c → Member c cs
at_member corners [] [] i c a m e = absurd m
at_member corners (p ∷ ps) (d ∷ cs) i c a (inl same) e = inl (same_some c d (sym e ∙ ap (slice_get corners) same ∙ a.0))
at_member corners (p ∷ ps) (d ∷ cs) i c a (inr m) e = inr (at_member corners ps cs i c a.1 m e)
at_member corners _ _ i c a m e = absurd a

-- the corners along cut edges are where they start, or of the list that cut them
along_cases : (planes : List BookPlane) (cutting : List Corner) (support : PlaneId) (cuts : List CutSide) (c : Corner) → Each (IsCut planes cutting support) cuts → Member c (flat_map corners_along cuts)
    → Member c (map (λ s. s.start) (map (λ k. k.side) cuts)) ⊎ Contains cutting c
along_cases planes cutting support [] c is m = absurd m
along_cases planes cutting support (k ∷ ks) c is (inl same) = inl (inl same)
along_cases planes cutting support (k ∷ ks) c is (inr m) = elim (member_cases c k.inside (flat_map corners_along ks) m) [
  | inl inside ↦ inr ((is.0.all c).0 (member_contains c k.inside inside)).0
  | inr later ↦ elim (along_cases planes cutting support ks c is.1 later) [
    | inl start ↦ inl (inr start)
    | inr there ↦ inr there
  ]
]

pub start_along : (cuts : List CutSide) (c : Corner) → Member c (map (λ s. s.start) (map (λ k. k.side) cuts)) → Member c (flat_map corners_along cuts)
start_along [] c m = absurd m
start_along (k ∷ ks) c (inl same) = inl same
start_along (k ∷ ks) c (inr m) = inr (member_right c k.inside (flat_map corners_along ks) (start_along ks c m))

module _ (planes : List BookPlane) (cutting corners : List Corner) where
  -- ---- the corners of the pieces are in the mesh
  start_there : (outlines : List Outline) (faces : List Face) (c : Corner) → AllZip (IsFaceOf planes cutting corners) outlines faces → Member c (flat_map starts_of outlines) → Contains corners c
  start_there [] [] c z m = absurd m
  start_there [] (f ∷ fs) c z m = absurd z
  start_there (w ∷ ws) [] c z m = absurd z
  start_there (w ∷ ws) (f ∷ fs) c z m = elim (member_cases c (starts_of w) (flat_map starts_of ws) m) [
    | inl here ↦ at_contains corners f.corners (corners_seen w.front_out (flat_map corners_along z.0.cuts)) c z.0.at
        (seen_member w.front_out c (flat_map corners_along z.0.cuts) (start_along z.0.cuts c (subst (λ ss. Member c (map (λ s. s.start) ss)) (sym z.0.sides) here)))
    | inr later ↦ start_there ws fs c z.1 later
  ]

  -- ---- and others are not
  named_start : (outlines : List Outline) (faces : List Face) (i : ℕ) (c : Corner) → AllZip (IsFaceOf planes cutting corners) outlines faces
      → Member i (flat_map (λ f. f.corners) faces) → slice_get corners i ≡ Some c → Member c (flat_map starts_of outlines) ⊎ Contains cutting c
  named_start [] [] i c z m e = absurd m
  named_start [] (f ∷ fs) i c z m e = absurd z
  named_start (w ∷ ws) [] i c z m e = absurd z
  named_start (w ∷ ws) (f ∷ fs) i c z m e = elim (member_cases i f.corners (flat_map (λ f. f.corners) fs) m) [
    | inl here ↦
        let along = member_seen w.front_out c (flat_map corners_along z.0.cuts) (at_member corners f.corners (corners_seen w.front_out (flat_map corners_along z.0.cuts)) i c z.0.at here e) in
        elim (along_cases planes cutting w.support z.0.cuts c (each_from_all (IsCut planes cutting w.support) z.0.cuts z.0.cut) along) [
          | inl start ↦ inl (member_left c (starts_of w) (flat_map starts_of ws) (subst (λ ss. Member c (map (λ s. s.start) ss)) z.0.sides start))
          | inr there ↦ inr there
        ]
    | inr later ↦ elim (named_start ws fs i c z.1 later e) [
      | inl start ↦ inl (member_right c (starts_of w) (flat_map starts_of ws) start)
      | inr there ↦ inr there
    ]
  ]

  pub same_corners : (outlines : List Outline) (faces : List Face) → AllZip (IsFaceOf planes cutting corners) outlines faces → HasCorners (flat_map starts_of outlines) cutting → AreInFirstUse corners faces → (c : Corner) → Contains corners c ↔ Contains cutting c
  same_corners outlines faces z has order c = (
    λ m.
        let below = m.1 in
        let here : slice_get corners m.0 ≡ Some c = slice_get-get_or corners m.0 c m.1 ∙ ap Some m.2 in
        elim (each_named (flat_map (λ f. f.corners) faces) 0 (length corners) m.0 order below) [
          | inl none ↦ absurd (omega (arith, none))
          | inr named ↦ elim (named_start outlines faces m.0 c z (contains_member m.0 (flat_map (λ f. f.corners) faces) named) here) [
            | inl start ↦ (has c).1 (member_contains c (flat_map starts_of outlines) start)
            | inr there ↦ there
          ]
        ],
    λ m. start_there outlines faces c z (contains_member c (flat_map starts_of outlines) ((has c).0 m)),
  )

-- ---- the faces of the pieces
one_face : (planes : List BookPlane) (cutting corners : List Corner) (o : OutFace) (w : Outline) (face : Face) → ((c : Corner) → Contains corners c ↔ Contains cutting c) → IsCycle planes o.frag → IsOutlineOf planes o w
    → IsFaceOf planes cutting corners w face → IsCutFaceOf planes corners corners o face
one_face planes cutting corners o w face same cycle out is =
    let sides : AreSides planes o.frag (map (λ c. c.side) is.cuts) = subst (AreSides planes o.frag) (sym is.sides) out.sides in
    record {
      plane = is.plane ∙ ap₂ (λ b id. kept_side b (plane_at planes id)) out.front_out out.support;
      cuts = is.cuts;
      of_piece = sides;
      cut = cuts-AreCut planes o.frag is.cuts cutting corners cycle sides same (subst (λ id. All (IsCut planes cutting id) is.cuts) out.support is.cut);
      edges = is.edges ∙ ap (λ b. map (outer_side planes) (edges_seen b (flat_map edges_along is.cuts))) out.front_out;
      at = subst (λ b. AreAt corners face.corners (corners_seen b (flat_map corners_along is.cuts))) out.front_out is.at;
    }

each_face : (planes : List BookPlane) (cutting corners : List Corner) (pieces : List OutFace) (outlines : List Outline) (faces : List Face) → ((c : Corner) → Contains corners c ↔ Contains cutting c) → Each (λ o. IsCycle planes o.frag) pieces
    → AllZip (IsOutlineOf planes) pieces outlines → AllZip (IsFaceOf planes cutting corners) outlines faces → AllZip (IsCutFaceOf planes corners corners) pieces faces
each_face planes cutting corners [] [] [] same c z y = tt
each_face planes cutting corners [] [] (f ∷ fs) same c z y = absurd y
each_face planes cutting corners [] (w ∷ ws) fs same c z y = absurd z
each_face planes cutting corners (o ∷ os) [] fs same c z y = absurd z
each_face planes cutting corners (o ∷ os) (w ∷ ws) [] same c z y = absurd y
each_face planes cutting corners (o ∷ os) (w ∷ ws) (f ∷ fs) same c z y = (one_face planes cutting corners o w f same c.0 z.0 y.0, each_face planes cutting corners os ws fs same c.1 z.1 y.1)

pub faces-AreCut : (planes : List BookPlane) (cutting corners : List Corner) (pieces : List OutFace) (outlines : List Outline) (faces : List Face) → All (λ o. IsCycle planes o.frag) pieces → AllZip (IsOutlineOf planes) pieces outlines
    → AllZip (IsFaceOf planes cutting corners) outlines faces → HasCorners (flat_map starts_of outlines) cutting → AreInFirstUse corners faces → AreCutFacesOf planes corners pieces faces
faces-AreCut planes cutting corners pieces outlines faces cycles z y has order =
    each_face planes cutting corners pieces outlines faces (same_corners planes cutting corners outlines faces y has order) (each_from_all (λ o. IsCycle planes o.frag) pieces cycles) z y

pub built-AreCut : (planes : List BookPlane) (cutting : List Corner) (pieces : List OutFace) (outlines : List Outline) (r : Result ExactMesh AllocError) → All (λ o. IsCycle planes o.frag) pieces → AllZip (IsOutlineOf planes) pieces outlines
    → HasCorners (flat_map starts_of outlines) cutting → IfOk r (λ mesh. AllZip (IsFaceOf planes cutting mesh.corners.items) outlines (map face_of mesh.faces.items)) → IfOk r (λ mesh. AreInFirstUse mesh.corners.items (map face_of mesh.faces.items))
    → IfOk r (λ mesh. AreCutFacesOf planes mesh.corners.items pieces (map face_of mesh.faces.items))
built-AreCut planes cutting pieces outlines (Ok mesh) cycles z has faces order = faces-AreCut planes cutting mesh.corners.items pieces outlines (map face_of mesh.faces.items) cycles z faces has order
built-AreCut planes cutting pieces outlines (Err e) cycles z has faces order = tt

-- ---- the edges of a round are of the book
abbrev IsGiven : List BookPlane → Edge → Type 0
IsGiven planes e = e.plane.k < length planes

const_each : (planes : List BookPlane) (e : Edge) (cs : List Corner) → IsGiven planes e → Each (IsGiven planes) (map (λ c. e) cs)
const_each planes e [] h = tt
const_each planes e (c ∷ cs) h = (h, const_each planes e cs h)

edges_each : (planes : List BookPlane) (cuts : List CutSide) → Each (λ s. IsGiven planes s.edge) (map (λ c. c.side) cuts) → Each (IsGiven planes) (flat_map edges_along cuts)
edges_each planes [] h = tt
edges_each planes (k ∷ ks) h = each_append (IsGiven planes) (edges_along k) (flat_map edges_along ks) (const_each planes k.side.edge (corners_along k) h.0) (edges_each planes ks h.1)

pub round_given : (planes : List BookPlane) (cutting : List Corner) (w : Outline) (round : Round) (b : Bool) (edges : List Edge) → IsOfBook planes w → IsRoundOf planes cutting w round → edges ≡ edges_seen b round.edges.items → All (λ e. e.plane.k < length planes) edges
round_given planes cutting w round b edges of_book is seen =
    all_from_each (IsGiven planes) edges (subst (Each (IsGiven planes)) (sym seen) (each_seen (IsGiven planes) b round.edges.items (subst (Each (IsGiven planes)) (sym is.edges)
    (edges_each planes is.cuts (subst (Each (λ s. IsGiven planes s.edge)) (sym is.sides) (each_weaker (IsSideOfBook planes) (λ s. IsGiven planes s.edge) (λ s h. h.edge) w.sides.items (each_from_all (IsSideOfBook planes) w.sides.items of_book.sides)))))))
