-- THE LAW OF EDGES: in the mesh of the faces of a tree, with edges cut at every corner on them, each directed edge stands as
-- often as its reverse.
use Rattle.std.proofs.Common.{◌≡◌, ◌≢◌, inl, inr, ℕ, ◌+◌, ◌<◌, Bool, true, false, cond, not, List, [], ◌∷◌, map, length, slice_get, ℤ, pos, ◌<ℤ◌, refl, sym, ap, ap₂, ◌∙◌, subst}
use Rattle.std.specs.Prelude.{◌↔◌}
use Rattle.std.specs.List.{AllZip, count_by}
use Rattle.std.proofs.lemmas.List.Sums.{sum_by-cons}
use Rattle.spec_space.specs.declared.Point.{Point}
use Rattle.spec_space.specs.Points.{IsPoint, value}
use Rattle.spec_space.specs.Sums.{IsSamePoint}
use Rattle.spec_page.specs.Element.{Face}
use Rattle.spec_page.specs.Faces.{edge_count}
use Rattle.plane_core.specs.declared.numbers.Plane.{Plane as BookPlane}
use Rattle.plane_core.specs.declared.numbers.Corner.{Corner}
use Rattle.plane_core.specs.Books.{AreDistinct}
use Rattle.plane_core.specs.Views.{plane_of, point_of}
use Rattle.convex_cycles.specs.Cycles.{Step, AreConvex}
use Rattle.convex_cycles.proofs.Links.{sides}
use Rattle.convex_cycles.proofs.Lists.{Each, EachPair, Member, pair_from_all, each_from_all}
use Rattle.line_turns.proofs.Chains.{IsCut}
use Rattle.line_turns.proofs.EdgeCounts as E
use Rattle.line_turns.proofs.EdgeCounts.{IsRoundOf, AreRoundsOf}
use Rattle.line_turns.proofs.Neighbours.{neighbour}
use Rattle.line_turns.proofs.Surface.{AreFaces, IsAloneOn}
use Rattle.line_turns.proofs.Tallies.{same}
use Rattle.tree_pool.specs.Trees.{Tree}
use Rattle.corner_book.specs.Corners.{AreDistinct as CornersDiffer}
use Rattle.face_walk.specs.declared.faces.OutFace.{OutFace}
use Rattle.face_walk.specs.Points.{holds}
use Rattle.face_walk.specs.Faces.{IsFace, IsOfBook, AreFacesOf, is_true_at}
use Rattle.edge_cut.specs.Cuts.{AreCutFacesOf}
use Rattle.edge_cut.proofs.Spellings.{one_corner}
use Rattle.edge_cut.proofs.Steps.{steps_of}
use Rattle.edge_laws.proofs.Boundary.{holds_inside, one_shown, outward_shown}
use Rattle.edge_laws.proofs.Named.{place_of, place_is, point_by, point_at, point_at-IsPoint, corner_at}
use Rattle.edge_laws.proofs.Room.{room}
use Rattle.edge_laws.proofs.Rounds.{chain_at, round_linked, round_places}
use Rattle.edge_laws.proofs.Shown.{Shown, sides_shown, IsShown, IsInside, AllShown, all_shown, shown_by, own_plane, convex_shown, sides_of_piece, own_chains, cut_shown}
use Rattle.edge_laws.proofs.Told.{get_member, tree_told}

module _ (planes : List BookPlane) (t : Tree) (corners : List Corner) where
  abbrev steps : Shown → List Step
  steps q = steps_of planes (sides_shown q)

  abbrev out : Shown → Bool
  out q = q.piece.front_out

  abbrev inside : Shown → Point → Bool
  inside q p = holds planes q.piece.frag p

  abbrev chain : Shown → Step → ℕ × List ℕ
  chain q e = chain_at corners q.cuts e.start

  -- ---- the rounds of the faces
  module _ (apart : EachPair (λ c d. c ≢ d) corners) where
    rounds : (qs : List Shown) (fs : List Face) → AllZip (IsShown planes t corners) qs fs → AreRoundsOf steps out chain qs fs
    rounds [] [] z = tt
    rounds [] (f ∷ fs) z = absurd z
    rounds (q ∷ qs) [] z = absurd z
    rounds (q ∷ qs) (f ∷ fs) z = (round_of q f z.0, rounds qs fs z.1)
      where
        round_of : (q : Shown) (f : Face) → IsShown planes t corners q f → IsRoundOf steps out chain q f
        round_of q f is =
            let own = own_chains planes t corners q f is in
            let link = round_linked planes corners (chain q) q.piece.frag q.cuts is.are_sides own in
            record { first = link.0; linked = link.1; corners = round_places planes corners (chain q) q.piece.front_out q.cuts f.corners apart own is.places }

  count_mapped : (test : OutFace → Bool) (qs : List Shown) → count_by (λ q. test q.piece) qs ≡ count_by test (map (λ q. q.piece) qs)
  count_mapped test [] = refl
  count_mapped test (q ∷ qs) = sum_by-cons (λ q. cond (test q.piece) 1 0) q qs ∙ ap (λ n. cond (test q.piece) 1 0 + n) (count_mapped test qs) ∙ sym (sum_by-cons (λ o. cond (test o) 1 0) q.piece (map (λ q. q.piece) qs))

  piece_there : (q : Shown) (qs : List Shown) → Member q qs → Member q.piece (map (λ q. q.piece) qs)
  piece_there q [] m = absurd m
  piece_there q (r ∷ rs) (inl e) = inl (ap (λ x. x.piece) e)
  piece_there q (r ∷ rs) (inr m) = inr (piece_there q rs m)

  -- ---- all that is asked of the faces
  module _ (pieces : List OutFace) (faces : List Face) (distinct : AreDistinct planes) (of_book : IsOfBook planes t) (are : AreFacesOf planes t pieces) (apart : EachPair (λ c d. c ≢ d) corners) (all : AllShown planes t corners pieces faces) where
    one_place : (i j : ℕ) → IsInside corners i → IsInside corners j → IsSamePoint (point_at corners i) (point_at corners j) → i ≡ j
    one_place i j ii ij here =
        let c = corner_at corners i ii.0 in
        let d = corner_at corners j ij.0 in
        let both : c.0 ≡ d.0 = one_corner c.0 d.0 (subst (λ p. IsSamePoint p (point_of d.0)) (ap point_by c.1) (subst (IsSamePoint (point_at corners i)) (ap point_by d.1) here)) in
        sym (place_is corners i c.0 apart c.1) ∙ ap (place_of corners) both ∙ place_is corners j d.0 apart d.1

    inside_shown : (q : Shown) (f : Face) (p : Point) → IsShown planes t corners q f → (inside q p ≡ true) ↔ ((value (plane_of q.support) p ≡ pos 0) × Each (λ h. pos 0 <ℤ value h p) (sides (steps q)))
    inside_shown q f p is =
        let h = holds_inside planes q.piece.frag p in (
          λ e. let i = h.0 e in (subst (λ k. value k p ≡ pos 0) (own_plane planes t corners q f is) i.0, subst (Each (λ k. pos 0 <ℤ value k p)) (sym (sides_of_piece planes t corners q f is)) i.1),
          λ i. h.1 (subst (λ k. value k p ≡ pos 0) (sym (own_plane planes t corners q f is)) i.0, subst (Each (λ k. pos 0 <ℤ value k p)) (sides_of_piece planes t corners q f is) i.1),
        )

    by_face : (q : Shown) → Member q all.all → (f : Face) × IsShown planes t corners q f
    by_face q m = shown_by planes t corners all.all faces all.shown q m

    faces_law : AreFaces (point_at corners) (IsInside corners) planes room (is_true_at planes t) all.all (λ q. q.support) steps out inside chain
    faces_law = record {
      different = pair_from_all (λ h k. h ≢ k) planes distinct;
      told_by = tree_told planes t;
      points = λ i ii. point_at-IsPoint corners i;
      distinct = one_place;
      in_room = λ i ii. ii.1;
      of_list = λ q m. let s = by_face q m in get_member planes q.piece.frag.support.k q.support s.1.at;
      convex = λ q m. let s = by_face q m in subst (λ h. AreConvex h (steps q)) (own_plane planes t corners q s.0 s.1) (convex_shown planes t corners q s.0 s.1);
      inside_is = λ q p m. let s = by_face q m in inside_shown q s.0 p s.1;
      cut = λ q e m me. let s = by_face q m in subst (λ h. IsCut (point_at corners) (IsInside corners) h e (chain q e).0 (chain q e).1) (own_plane planes t corners q s.0 s.1) (cut_shown planes t corners q s.0 s.1 e me);
      one = λ x p mx alone. count_mapped (λ o. holds planes o.frag p) all.all ∙ ap (count_by (λ o. holds planes o.frag p)) all.pieces_are ∙ one_shown planes t pieces distinct of_book are.boundary x p mx alone;
      outward = λ q x p m mx alone h. outward_shown planes t pieces distinct of_book are.boundary x p mx alone q.piece (subst (Member q.piece) all.pieces_are (piece_there q all.all m)) h;
    }

-- each directed edge stands in the mesh as often as its reverse
pub edge_count_balance : (planes : List BookPlane) (t : Tree) (pieces : List OutFace) (corners : List Corner) (faces : List Face) → AreDistinct planes → IsOfBook planes t → AreFacesOf planes t pieces
    → AreCutFacesOf planes corners pieces faces → CornersDiffer corners → (u v : ℕ) → edge_count faces u v ≡ edge_count faces v u
edge_count_balance planes t pieces corners faces distinct of_book are cut apart u v =
    let differ = pair_from_all (λ c d. c ≢ d) corners apart in
    let all = all_shown planes t corners pieces faces (each_from_all (IsFace planes t) pieces are.faces) cut in
    E.edge_count_balance (steps planes t corners) (out planes t corners) (chain planes t corners) (point_at corners) (IsInside corners) planes room (is_true_at planes t) all.all (λ q. q.support) (inside planes t corners) faces
    (faces_law planes t corners pieces faces distinct of_book are differ all) (rounds planes t corners differ all.all faces all.shown) u v
