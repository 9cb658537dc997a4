-- Pieces of the boundary of a tree with their cut edges, and the faces that show them.
use Rattle.std.proofs.Common.{◌≡◌, ◌≢◌, ◌⊎◌, inl, inr, ℕ, zero, suc, ◌<◌, ◌≤◌, List, [], ◌∷◌, ◌++◌, Some, map, length, slice_get, All, ℤ, pos, ◌<ℤ◌, ◌≤ℤ◌, refl, sym, ap, ◌∙◌, subst, arith}
use Rattle.std.proofs.lemmas.Int.{ints}
use Rattle.std.specs.List.{AllZip, flat_map}
use Rattle.std.proofs.lemmas.Option.{slice_get_within}
use Rattle.spec_space.specs.declared.Point.{Point}
use Rattle.spec_space.specs.declared.Plane.{Plane}
use Rattle.spec_space.specs.Points.{IsPoint, value}
use Rattle.spec_page.specs.Element.{Face}
use Rattle.spec_page.specs.Faces.{rotated}
use Rattle.plane_core.specs.declared.numbers.Plane.{Plane as BookPlane}
use Rattle.plane_core.specs.declared.numbers.Corner.{Corner}
use Rattle.plane_core.specs.Views.{plane_of, point_of}
use Rattle.convex_cycles.specs.Cycles.{Step, IsEdgeOf, AreConvex}
use Rattle.convex_cycles.proofs.CutCycles.{CycleFacts, to_cycle, start_touches}
use Rattle.convex_cycles.proofs.Links.{sides}
use Rattle.convex_cycles.proofs.Lists.{Each, EachPair, Member, each_member, each_from_members, each_from_all, all_from_each, each_map, each_from_map, each_weaker}
use Rattle.poly_frag.specs.Frags.{numbered, plane_at, side_of, sides_of, support_of, IsIn}
use Rattle.poly_frag.proofs.CornerSigns.{member_contains}
use Rattle.poly_frag.proofs.Starts.{AreStarts}
use Rattle.line_turns.proofs.Chains.{IsCut}
use Rattle.line_turns.proofs.Pieces.{up_from_start}
use Rattle.face_walk.specs.declared.faces.OutFace.{OutFace}
use Rattle.face_walk.specs.Faces.{IsFace}
use Rattle.tree_pool.specs.Trees.{Tree}
use Rattle.edge_cut.specs.Seen.{corners_seen, AreAt}
use Rattle.edge_laws.proofs.FrontRings.{front_ring}
use Rattle.edge_cut.proofs.Reversed.{each_rotated}
use Rattle.edge_cut.specs.declared.sides.Side.{Side}
use Rattle.edge_cut.specs.Sides.{AreSides, step_of}
use Rattle.edge_cut.specs.Cuts.{CutSide, corners_along, IsInsideEdge, IsCutAt, IsCutFaceOf}
use Rattle.edge_cut.proofs.Cutting.{on_kept_side}
use Rattle.edge_cut.proofs.Meshed.{seen_member, start_along}
use Rattle.edge_cut.proofs.Steps.{steps_of, steps-AreConvex}
use Rattle.edge_laws.proofs.Edges.{all_in, chain-IsCut}
use Rattle.edge_laws.proofs.Named.{place_of, point_at, at_place, point-at_place, seen_members, chain_of}
use Rattle.edge_laws.proofs.Room.{room, range_room}
use Rattle.edge_laws.proofs.Rounds.{chain_at, chain_found, StartsDiffer, HasOwnChain}

-- a piece, its plane, and its edges with the corners inside them
pub record Shown : Type 0 where
  pub piece : OutFace
  pub support : BookPlane
  pub cuts : List CutSide

abbrev pub sides_shown : Shown → List Side
sides_shown q = map (λ k. k.side) q.cuts

-- the face shows it
pub record IsShown (planes : List BookPlane) (t : Tree) (corners : List Corner) (q : Shown) (f : Face) : Type 0 where
  pub at : slice_get planes q.piece.frag.support.k ≡ Some q.support
  pub face : IsFace planes t q.piece
  pub are_sides : AreSides planes q.piece.frag (sides_shown q)
  pub cut : All (IsCutAt planes corners q.piece.frag.support) q.cuts
  pub places : AreAt corners f.corners (corners_seen q.piece.front_out (flat_map corners_along q.cuts))

slice_below : (planes : List BookPlane) (k : ℕ) → k < length planes → (x : BookPlane) × (slice_get planes k ≡ Some x)
slice_below [] k h = absurd (omega (arith, h))
slice_below (p ∷ ps) zero h = (p, refl)
slice_below (p ∷ ps) (suc k) h = slice_below ps k (omega (arith, h))

-- ---- the pieces with the faces that show them
pub record AllShown (planes : List BookPlane) (t : Tree) (corners : List Corner) (pieces : List OutFace) (faces : List Face) : Type 0 where
  pub all : List Shown
  pub pieces_are : map (λ q. q.piece) all ≡ pieces
  pub shown : AllZip (IsShown planes t corners) all faces

pub all_shown : (planes : List BookPlane) (t : Tree) (corners : List Corner) (pieces : List OutFace) (faces : List Face) → Each (IsFace planes t) pieces → AllZip (IsCutFaceOf planes corners corners) pieces faces → AllShown planes t corners pieces faces
all_shown planes t corners [] [] is z = record { all = []; pieces_are = refl; shown = tt }
all_shown planes t corners [] (f ∷ fs) is z = absurd z
all_shown planes t corners (o ∷ os) [] is z = absurd z
all_shown planes t corners (o ∷ os) (f ∷ fs) is z =
    let rest = all_shown planes t corners os fs is.1 z.1 in
    let x = slice_below planes o.frag.support.k is.0.fragment.cycle.support_given in
    let q : Shown = record { piece = o; support = x.0; cuts = z.0.cuts } in
    record {
      all = q ∷ rest.all;
      pieces_are = ap (λ ps. o ∷ ps) rest.pieces_are;
      shown = (record { at = x.1; face = is.0; are_sides = z.0.of_piece; cut = z.0.cut; places = z.0.at }, rest.shown);
    }

pub shown_by : (planes : List BookPlane) (t : Tree) (corners : List Corner) (qs : List Shown) (fs : List Face) → AllZip (IsShown planes t corners) qs fs → (q : Shown) → Member q qs → (f : Face) × IsShown planes t corners q f
shown_by planes t corners [] fs z q m = absurd m
shown_by planes t corners (r ∷ rs) [] z q m = absurd z
shown_by planes t corners (r ∷ rs) (f ∷ fs) z q (inl same) = (f, subst (λ x. IsShown planes t corners x f) (sym same) z.0)
shown_by planes t corners (r ∷ rs) (f ∷ fs) z q (inr m) = shown_by planes t corners rs fs z.1 q m

pub pair_from_map : {X Y : Type 0} (R : Y → Y → Type 0) (f : X → Y) (xs : List X) → EachPair R (map f xs) → EachPair (λ x y. R (f x) (f y)) xs
pair_from_map R f [] e = tt
pair_from_map R f (x ∷ xs) e = (each_from_map (R (f x)) f xs e.0, pair_from_map R f xs e.1)

pub starts_same : (planes : List BookPlane) (ss : List Side) → AreStarts (map (λ s. s.start) ss) (steps_of planes ss)
starts_same planes [] = tt
starts_same planes (s ∷ ss) = (record { same_x = refl; same_y = refl; same_z = refl }, starts_same planes ss)

sides_same : (planes : List BookPlane) (ss : List Side) → sides (steps_of planes ss) ≡ map (side_of planes) (map (λ s. s.edge) ss)
sides_same planes [] = refl
sides_same planes (s ∷ ss) = ap (λ hs. side_of planes s.edge ∷ hs) (sides_same planes ss)

-- a place of a corner strictly inside the room
abbrev pub IsInside : List Corner → ℕ → Type 0
IsInside corners i = (i < length corners) × Each (λ w. pos 0 <ℤ value w (point_at corners i)) room

-- ---- one piece
module _ (planes : List BookPlane) (t : Tree) (corners : List Corner) (q : Shown) (f : Face) (is : IsShown planes t corners q f) where
  abbrev ss : List Side
  ss = sides_shown q

  abbrev h : Plane
  h = support_of planes q.piece.frag

  pub own_plane : h ≡ plane_of q.support
  own_plane = ap numbered is.at

  pub convex_shown : AreConvex h (steps_of planes ss)
  convex_shown = steps-AreConvex planes q.piece.frag ss is.face.fragment.cycle is.are_sides

  pub sides_of_piece : sides (steps_of planes ss) ≡ sides_of planes q.piece.frag
  sides_of_piece = sides_same planes ss ∙ ap (map (side_of planes)) is.are_sides.edges

  starts_differ : EachPair StartsDiffer q.cuts
  starts_differ = pair_from_map (λ s r. point_of s.start ≢ point_of r.start) (λ k. k.side) q.cuts
      (pair_from_map (λ c d. point_of c ≢ point_of d) (λ s. s.start) ss
      (pair_from_map (λ a b. a ≢ b) point_of (map (λ s. s.start) ss) (front_ring h (steps_of planes ss) (map (λ s. s.start) ss) convex_shown (starts_same planes ss)).different))

  pub own_chains : Each (HasOwnChain planes corners (λ e. chain_at corners q.cuts e.start)) q.cuts
  own_chains = each_from_members (HasOwnChain planes corners (λ e. chain_at corners q.cuts e.start)) q.cuts (λ k m. chain_found corners q.cuts starts_differ k m)

  -- the corners of the piece are in the mesh
  starts_in : Each (λ c. Member c corners) (map (λ s. s.start) ss)
  starts_in = each_from_members (λ c. Member c corners) (map (λ s. s.start) ss) (λ c m.
      each_member (λ c. Member c corners) c (corners_seen q.piece.front_out (flat_map corners_along q.cuts))
      (seen_member q.piece.front_out c (flat_map corners_along q.cuts) (start_along q.cuts c m))
      (seen_members corners f.corners (corners_seen q.piece.front_out (flat_map corners_along q.cuts)) is.places))

  starts_there : Each (λ k. Member k.side.start corners) q.cuts
  starts_there = each_from_map (λ s. Member s.start corners) (λ k. k.side) q.cuts (each_from_map (λ c. Member c corners) (λ s. s.start) ss starts_in)

  ends_there : Each (λ k. Member k.side.end corners) q.cuts
  ends_there = each_from_map (λ s. Member s.end corners) (λ k. k.side) q.cuts (each_from_map (λ c. Member c corners) (λ s. s.end) ss
      (subst (Each (λ c. Member c corners)) (sym is.are_sides.ends) (each_rotated (λ c. Member c corners) (map (λ s. s.start) ss) starts_in)))

  -- and in the room
  abbrev InRoom : Point → Type 0
  InRoom p = Each (λ w. pos 0 <ℤ value w p) room

  facts : CycleFacts h (steps_of planes ss)
  facts = to_cycle h (steps_of planes ss) convex_shown

  edges_are : Each (λ k. IsEdgeOf h (step_of planes k.side)) q.cuts
  edges_are = each_from_map (λ s. IsEdgeOf h (step_of planes s)) (λ k. k.side) q.cuts (each_from_map (IsEdgeOf h) (step_of planes) ss facts.edges)

  step_there : (k : CutSide) (ks : List CutSide) → Member k ks → Member (step_of planes k.side) (steps_of planes (map (λ k. k.side) ks))
  step_there k [] m = absurd m
  step_there k (l ∷ ls) (inl same) = inl (ap (λ x. step_of planes x.side) same)
  step_there k (l ∷ ls) (inr m) = inr (step_there k ls m)

  start_room : (k : CutSide) → Member k q.cuts → InRoom (point_of k.side.start)
  start_room k m = range_room (point_of k.side.start) k.side.start.positive (is.face.in_range (point_of k.side.start) k.side.start.positive (
    (each_member (λ k. IsEdgeOf h (step_of planes k.side)) k q.cuts m edges_are).start_on,
    all_from_each (λ g. pos 0 ≤ℤ value g (point_of k.side.start)) (sides_of planes q.piece.frag) (subst (Each (λ g. pos 0 ≤ℤ value g (point_of k.side.start))) sides_of_piece
        (each_map (λ g. pos 0 ≤ℤ value g (point_of k.side.start)) (λ e. e.side) (steps_of planes ss) (each_from_members (λ e. pos 0 ≤ℤ value e.side (point_of k.side.start)) (steps_of planes ss) (λ e me. start_touches h (steps_of planes ss) facts e (step_of planes k.side) me (step_there k q.cuts m))))),
  ))

  rooms : Each (λ c. InRoom (point_of c)) (map (λ s. s.start) ss)
  rooms = each_map (λ c. InRoom (point_of c)) (λ s. s.start) ss (each_map (λ s. InRoom (point_of s.start)) (λ k. k.side) q.cuts (each_from_members (λ k. InRoom (point_of k.side.start)) q.cuts start_room))

  end_rooms : Each (λ k. InRoom (point_of k.side.end)) q.cuts
  end_rooms = each_from_map (λ s. InRoom (point_of s.end)) (λ k. k.side) q.cuts (each_from_map (λ c. InRoom (point_of c)) (λ s. s.end) ss
      (subst (Each (λ c. InRoom (point_of c))) (sym is.are_sides.ends) (each_rotated (λ c. InRoom (point_of c)) (map (λ s. s.start) ss) rooms)))

  inside_room : (k : CutSide) → Member k q.cuts → (c : Corner) → Member c k.inside → InRoom (point_of c)
  inside_room k m c mc =
      let i = (((each_member (IsCutAt planes corners q.piece.frag.support) k q.cuts m (each_from_all (IsCutAt planes corners q.piece.frag.support) q.cuts is.cut)).all c).0 (member_contains c k.inside mc)).1 in
      each_from_members (λ w. pos 0 <ℤ value w (point_of c)) room (λ w mw.
      up_from_start h w (step_of planes k.side) (point_of c) (each_member (λ k. IsEdgeOf h (step_of planes k.side)) k q.cuts m edges_are)
      (record { on = i.on_support; on_side = on_kept_side k.side.edge.keep_front (plane_at planes k.side.edge.plane) (point_of c) i.on_edge; after_start = i.after_start; before_end = i.before_end })
      (each_member (λ w. pos 0 <ℤ value w (point_of k.side.start)) w room mw (start_room k m))
      (weaker (value w (point_of k.side.end)) (each_member (λ w. pos 0 <ℤ value w (point_of k.side.end)) w room mw (each_member (λ k. InRoom (point_of k.side.end)) k q.cuts m end_rooms))))
    where
      weaker : (x : ℤ) → pos 0 <ℤ x → pos 0 ≤ℤ x
      weaker x h = omega (arith, ints)

  along_room : (k : CutSide) → Member k q.cuts → (c : Corner) → Member c (k.side.start ∷ (k.inside ++ k.side.end ∷ [])) → InRoom (point_of c)
  along_room k m c (inl same) = subst (λ x. InRoom (point_of x)) (sym same) (start_room k m)
  along_room k m c (inr there) = elim (split k.inside there) [
    | inl inside ↦ inside_room k m c inside
    | inr last ↦ subst (λ x. InRoom (point_of x)) (sym last) (each_member (λ k. InRoom (point_of k.side.end)) k q.cuts m end_rooms)
  ]
    where
      split : (cs : List Corner) → Member c (cs ++ k.side.end ∷ []) → Member c cs ⊎ (c ≡ k.side.end)
      split [] (inl same) = inr same
      split [] (inr none) = absurd none
      split (d ∷ ds) (inl same) = inl (inl same)
      split (d ∷ ds) (inr later) = elim (split ds later) [ inl there ↦ inl (inr there) | inr last ↦ inr last ]

  along_there : (k : CutSide) → Member k q.cuts → (c : Corner) → Member c (k.side.start ∷ (k.inside ++ k.side.end ∷ [])) → Member c corners
  along_there k m c mc = each_member (λ c. Member c corners) c (k.side.start ∷ (k.inside ++ k.side.end ∷ [])) mc
      (all_in planes corners q.piece.frag.support k (each_member (IsCutAt planes corners q.piece.frag.support) k q.cuts m (each_from_all (IsCutAt planes corners q.piece.frag.support) q.cuts is.cut))
      (each_member (λ k. IsEdgeOf h (step_of planes k.side)) k q.cuts m edges_are) (each_member (λ k. Member k.side.start corners) k q.cuts m starts_there) (each_member (λ k. Member k.side.end corners) k q.cuts m ends_there))

  -- ---- each edge is cut at every corner of the mesh
  abbrev Inside : ℕ → Type 0
  Inside = IsInside corners

  abbrev IsCutStep : Step → Type 0
  IsCutStep e = IsCut (point_at corners) Inside h e (chain_at corners q.cuts e.start).0 (chain_at corners q.cuts e.start).1

  pub cut_shown : (e : Step) → Member e (steps_of planes ss) → IsCut (point_at corners) Inside h e (chain_at corners q.cuts e.start).0 (chain_at corners q.cuts e.start).1
  cut_shown e me = each_member IsCutStep e (steps_of planes ss) me (each_map IsCutStep (step_of planes) ss (each_map (λ s. IsCutStep (step_of planes s)) (λ k. k.side) q.cuts (each_from_members (λ k. IsCutStep (step_of planes k.side)) q.cuts one)))
    where
      given : (k : CutSide) → Member k q.cuts → (c : Corner) → Member c (k.side.start ∷ (k.inside ++ k.side.end ∷ [])) → Inside (place_of corners c)
      given k m c mc = (
        slice_get_within corners (place_of corners c) c (at_place corners c (along_there k m c mc)),
        subst (λ p. InRoom p) (sym (point-at_place corners c (along_there k m c mc))) (along_room k m c mc),
      )

      one : (k : CutSide) → Member k q.cuts → IsCutStep (step_of planes k.side)
      one k m = subst (λ ch. IsCut (point_at corners) Inside h (step_of planes k.side) ch.0 ch.1) (sym (each_member (HasOwnChain planes corners (λ e. chain_at corners q.cuts e.start)) k q.cuts m own_chains))
          (chain-IsCut planes corners q.piece.frag.support k (each_member (IsCutAt planes corners q.piece.frag.support) k q.cuts m (each_from_all (IsCutAt planes corners q.piece.frag.support) q.cuts is.cut))
          (each_member (λ k. IsEdgeOf h (step_of planes k.side)) k q.cuts m edges_are) (each_member (λ k. Member k.side.start corners) k q.cuts m starts_there) (each_member (λ k. Member k.side.end corners) k q.cuts m ends_there)
          Inside (given k m) (λ i ii. ii.0))
