-- The round of a cut piece is the ring of a full face.
use Rattle.std.proofs.Common.{◌≡◌, ◌≢◌, ◌⊎◌, inl, inr, ℕ, zero, suc, ◌+◌, ◌≤◌, List, [], ◌∷◌, ◌++◌, map, reverse, length, ℤ, pos, neg_ℤ, ◌<ℤ◌, ◌≤ℤ◌, refl, sym, ap, ap₂, ◌∙◌, subst, arith, append_assoc, length-append}
use Rattle.std.proofs.lemmas.Int.{ints}
use Rattle.std.proofs.lemmas.List.{append-nil, length-map, length-reverse}
use Rattle.std.specs.List.{flat_map}
use Rattle.spec_space.specs.declared.Point.{Point}
use Rattle.spec_space.specs.declared.Plane.{Plane}
use Rattle.spec_space.specs.Points.{value, dot, way_between, opposite}
use Rattle.spec_page.specs.Faces.{rotated, IsEdge}
use Rattle.plane_core.specs.declared.numbers.Plane.{Plane as BookPlane}
use Rattle.plane_core.specs.declared.numbers.Corner.{Corner}
use Rattle.plane_core.specs.Views.{point_of}
use Rattle.convex_cycles.specs.Cycles.{Step, IsEdgeOf, KeepEachOther, AreConvex}
use Rattle.convex_cycles.proofs.CutCycles.{CycleFacts, to_cycle, start_touches, end_touches}
use Rattle.convex_cycles.proofs.Edges.{IsSpare-edge}
use Rattle.convex_cycles.proofs.Hull.{value-opposite, opposite_low}
use Rattle.convex_cycles.proofs.Lists.{Each, EachPair, Member, each_member, each_from_members, each_weaker, each_append, each_map, each_from_map, each_from_all, all_from_each, pair_append, member_right}
use Rattle.poly_frag.specs.Frags.{side_of, support_of}
use Rattle.poly_frag.specs.Cycles.{IsCycle}
use Rattle.poly_frag.specs.declared.frag.Edge.{Edge}
use Rattle.poly_frag.specs.declared.frag.Frag.{Frag}
use Rattle.line_turns.proofs.Along.{after_once}
use Rattle.line_turns.proofs.Chains.{pairs_from, each_pairs}
use Rattle.line_turns.proofs.CutLists.{each_next, pair_split}
use Rattle.line_turns.proofs.Pieces.{IsInsideEdge, kept_inside}
use Rattle.edge_cut.specs.Seen.{outer_side}
use Rattle.edge_laws.proofs.FrontRings.{HasBehind, IsRing, front_ring}
use Rattle.edge_laws.proofs.Rows.{Rows, rows_append, rows_same, rows_turned}
use Rattle.edge_cut.proofs.Reversed.{map-append, map-rotated, each_reverse, each_rotated, member_reverse, pair_reverse}
use Rattle.edge_cut.specs.declared.sides.Side.{Side}
use Rattle.edge_cut.specs.Sides.{AreSides, step_of}
use Rattle.edge_cut.specs.Cuts.{CutSide, edges_along, corners_along, IsCutAt}
use Rattle.edge_cut.proofs.Meshed.{start_along}
use Rattle.edge_cut.proofs.Steps.{steps_of, steps-AreConvex, AreChainedSides, round_sides}
use Rattle.edge_laws.proofs.Along.{part_along, along_turned}
use Rattle.edge_laws.proofs.Edges.{After, OnEdge, order, all_on, inside, inside_on}
use Rattle.edge_laws.proofs.Shown.{starts_same, pair_from_map}

-- ---- lists over cuts
flat_member : (ks : List CutSide) (c : Corner) → Member c (flat_map corners_along ks) → (k : CutSide) × Member k ks × Member c (corners_along k)
flat_member [] c m = absurd m
flat_member (k ∷ ks) c m = elim (cases (corners_along k) m) [
  | inl here ↦ (k, inl refl, here)
  | inr later ↦ let r = flat_member ks c later in (r.0, inr r.1, r.2)
]
  where
    cases : (cs : List Corner) → Member c (cs ++ flat_map corners_along ks) → Member c cs ⊎ Member c (flat_map corners_along ks)
    cases [] m = inr m
    cases (d ∷ ds) (inl same) = inl (inl same)
    cases (d ∷ ds) (inr m) = elim (cases ds m) [ inl there ↦ inl (inr there) | inr there ↦ inr there ]

each_along : (P : Point → Type 0) (ks : List CutSide) → ((k : CutSide) → Member k ks → (c : Corner) → Member c (corners_along k) → P (point_of c)) → Each P (map point_of (flat_map corners_along ks))
each_along P ks h = each_map P point_of (flat_map corners_along ks) (each_from_members (λ c. P (point_of c)) (flat_map corners_along ks) (λ c m. let r = flat_member ks c m in h r.0 r.1 c r.2))

abbrev parts : List BookPlane → CutSide → List Plane
parts planes k = map (outer_side planes) (edges_along k)

each_edge : (P : Plane → Type 0) (planes : List BookPlane) (ks : List CutSide) → Each (λ k. P (outer_side planes k.side.edge)) ks → Each P (map (outer_side planes) (flat_map edges_along ks))
each_edge P planes [] h = tt
each_edge P planes (k ∷ ks) h = subst (Each P) (sym (map-append (outer_side planes) (edges_along k) (flat_map edges_along ks))) (each_append P (parts planes k) (map (outer_side planes) (flat_map edges_along ks)) (one (corners_along k) h.0) (each_edge P planes ks h.1))
  where
    one : (cs : List Corner) → P (outer_side planes k.side.edge) → Each P (map (outer_side planes) (map (λ c. k.side.edge) cs))
    one [] p = tt
    one (c ∷ cs) p = (p, one cs p)

pair_to_map : {X Y : Type 0} (R : Y → Y → Type 0) (f : X → Y) (xs : List X) → EachPair (λ x y. R (f x) (f y)) xs → EachPair R (map f xs)
pair_to_map R f [] e = tt
pair_to_map R f (x ∷ xs) e = (each_map (R (f x)) f xs e.0, pair_to_map R f xs e.1)

-- ---- each edge ends where the next begins
abbrev rest_of : CutSide → List Corner
rest_of k = k.inside ++ k.side.end ∷ []

shifted : (k : CutSide) (ks : List CutSide) (z : Side) → AreChainedSides k.side (map (λ k. k.side) ks) z → k.side.start ∷ flat_map rest_of (k ∷ ks) ≡ flat_map corners_along (k ∷ ks) ++ z.start ∷ []
shifted k [] z c =
    ap (λ cs. k.side.start ∷ cs) (append-nil (rest_of k) ∙ ap (λ x. k.inside ++ x ∷ []) c.0)
    ∙ ap (λ cs. (k.side.start ∷ cs) ++ z.start ∷ []) (sym (append-nil k.inside))
shifted k (l ∷ ls) z c =
    ap (λ cs. k.side.start ∷ cs) (append_assoc k.inside (k.side.end ∷ []) (flat_map rest_of (l ∷ ls))
    ∙ ap (λ x. k.inside ++ (x ∷ flat_map rest_of (l ∷ ls))) c.0.0
    ∙ ap (λ cs. k.inside ++ cs) (shifted l ls z c.1)
    ∙ sym (append_assoc k.inside (flat_map corners_along (l ∷ ls)) (z.start ∷ [])))

tail_same : {X : Type 0} (x y : X) (xs ys : List X) → x ∷ xs ≡ y ∷ ys → xs ≡ ys
tail_same x y xs ys e = cc

next_corners : (planes : List BookPlane) (f : Frag) (ks : List CutSide) → AreSides planes f (map (λ k. k.side) ks) → flat_map rest_of ks ≡ rotated (flat_map corners_along ks)
next_corners planes f [] are = refl
next_corners planes f (k ∷ ks) are =
    tail_same k.side.start k.side.start (flat_map rest_of (k ∷ ks)) ((k.inside ++ flat_map corners_along ks) ++ k.side.start ∷ []) (shifted k ks k.side (round_sides planes f k.side (map (λ k. k.side) ks) are))

-- ---- the other side of a ring
weaker : (n m : ℕ) → 3 ≤ n → m ≡ n → 3 ≤ m
weaker n m h e = omega arith

turned_ring : (h : Plane) (edges : List Plane) (points : List Point) → IsRing h edges points → IsRing (opposite h) (rotated (reverse edges)) (reverse points)
turned_ring h edges points ring = record {
  enough = weaker (length points) (length (reverse points)) ring.enough (length-reverse points);
  flat = each_reverse (λ p. value (opposite h) p ≡ pos 0) points (each_weaker (λ p. value h p ≡ pos 0) (λ p. value (opposite h) p ≡ pos 0) (λ p on. value-opposite h p ∙ ap neg_ℤ on) points ring.flat);
  along = rows_turned (λ m u v. IsEdge h m u v points) (λ m u v. IsEdge (opposite h) m u v (reverse points)) edge_turned edges points ring.along;
  different = pair_reverse (λ p q. p ≢ q) (λ p q apart same. apart (sym same)) points ring.different;
  wide = each_rotated (HasBehind (reverse points)) (reverse edges) (each_reverse (HasBehind (reverse points)) edges (each_weaker (HasBehind points) (HasBehind (reverse points)) (λ m b. (b.0, member_reverse b.0 points b.1, b.2)) edges ring.wide));
}
  where
    edge_turned : (m : Plane) (u v : Point) → IsEdge h m u v points → IsEdge (opposite h) m v u (reverse points)
    edge_turned m u v is = record {
      first = is.second;
      second = is.first;
      behind = all_from_each (λ p. value m p ≤ℤ pos 0) (reverse points) (each_reverse (λ p. value m p ≤ℤ pos 0) points (each_from_all (λ p. value m p ≤ℤ pos 0) points is.behind));
      along = along_turned h m u v is.along;
    }

-- ---- one piece
module _ (planes : List BookPlane) (f : Frag) (cuts : List CutSide) (corners : List Corner) (cycle : IsCycle planes f) (are : AreSides planes f (map (λ k. k.side) cuts)) (cut : Each (IsCutAt planes corners f.support) cuts) where
  abbrev h : Plane
  h = support_of planes f

  abbrev ss : List Side
  ss = map (λ k. k.side) cuts

  abbrev steps : List Step
  steps = steps_of planes ss

  convex : AreConvex h steps
  convex = steps-AreConvex planes f ss cycle are

  facts : CycleFacts h steps
  facts = to_cycle h steps convex

  base : IsRing h (map (λ e. opposite e.side) steps) (map point_of (map (λ s. s.start) ss))
  base = front_ring h steps (map (λ s. s.start) ss) convex (starts_same planes ss)

  abbrev points : List Point
  points = map point_of (flat_map corners_along cuts)

  abbrev outer : CutSide → Plane
  outer k = outer_side planes k.side.edge

  step_there : (k : CutSide) (ks : List CutSide) → Member k ks → Member (step_of planes k.side) (steps_of planes (map (λ k. k.side) ks))
  step_there k [] m = absurd m
  step_there k (l ∷ ls) (inl same) = inl (ap (λ x. step_of planes x.side) same)
  step_there k (l ∷ ls) (inr m) = inr (step_there k ls m)

  edge_at : (k : CutSide) → Member k cuts → IsEdgeOf h (step_of planes k.side)
  edge_at k m = each_member (IsEdgeOf h) (step_of planes k.side) steps (step_there k cuts m) facts.edges

  cut_at : (k : CutSide) → Member k cuts → IsCutAt planes corners f.support k
  cut_at k m = each_member (IsCutAt planes corners f.support) k cuts m cut

  -- the corners along an edge are on it
  on_edge : (k : CutSide) → Member k cuts → (c : Corner) → Member c (corners_along k) → (value h (point_of c) ≡ pos 0) × (value (side_of planes k.side.edge) (point_of c) ≡ pos 0)
  on_edge k m c (inl same) = subst (λ x. (value h (point_of x) ≡ pos 0) × (value (side_of planes k.side.edge) (point_of x) ≡ pos 0)) (sym same) ((edge_at k m).start_on, (edge_at k m).start_side)
  on_edge k m c (inr mc) = inside_on planes corners f.support k (cut_at k m) (edge_at k m) c mc

  within : (k : CutSide) → Member k cuts → (c : Corner) → Member c k.inside → IsInsideEdge h (step_of planes k.side) (point_of c)
  within k m c mc =
      let i = inside planes corners f.support k (cut_at k m) (edge_at k m) c mc in
      let on = inside_on planes corners f.support k (cut_at k m) (edge_at k m) c mc in
      record { on = on.0; on_side = on.1; after_start = i.after_start; before_end = i.before_end }

  -- no corner is in front of an outer side
  above : (x : ℤ) → pos 0 <ℤ x → pos 0 ≤ℤ x
  above x h = omega (arith, ints)

  behind : (k l : CutSide) → Member k cuts → Member l cuts → (c : Corner) → Member c (corners_along l) → value (outer k) (point_of c) ≤ℤ pos 0
  behind k l mk ml c (inl same) = subst (λ x. value (outer k) (point_of x) ≤ℤ pos 0) (sym same) (opposite_low (side_of planes k.side.edge) (point_of l.side.start) (start_touches h steps facts (step_of planes k.side) (step_of planes l.side) (step_there k cuts mk) (step_there l cuts ml)))
  behind k l mk ml c (inr mc) =
      let e = step_of planes l.side in
      let i = within l ml c mc in
      IsSpare-edge h (outer k) (e.prev ∷ (e.next ∷ [])) [] e (edge_at l ml) (inl (inl refl)) (inl (inr (inl refl)))
      (opposite_low (side_of planes k.side.edge) (point_of l.side.start) (start_touches h steps facts (step_of planes k.side) e (step_there k cuts mk) (step_there l cuts ml)))
      (opposite_low (side_of planes k.side.edge) (point_of l.side.end) (end_touches h steps facts (step_of planes k.side) e (step_there k cuts mk) (step_there l cuts ml)))
      (point_of c) i.on i.on_side (above (value e.prev (point_of c)) i.after_start, (above (value e.next (point_of c)) i.before_end, tt)) tt

  all_behind : (k : CutSide) → Member k cuts → Each (λ p. value (outer k) p ≤ℤ pos 0) points
  all_behind k mk = each_along (λ p. value (outer k) p ≤ℤ pos 0) cuts (λ l ml c mc. behind k l mk ml c mc)

  flat : Each (λ p. value h p ≡ pos 0) points
  flat = each_along (λ p. value h p ≡ pos 0) cuts (λ k m c mc. (on_edge k m c mc).0)

  -- ---- the edges
  abbrev IsPart : Plane → Point → Point → Type 0
  IsPart m u v = IsEdge h m u v points

  on_outer : (g : Plane) (p : Point) → value g p ≡ pos 0 → value (opposite g) p ≡ pos 0
  on_outer g p on = value-opposite g p ∙ ap neg_ℤ on

  part : (k : CutSide) (m : Member k cuts) (c d : Corner) → OnEdge planes corners f.support k (cut_at k m) (edge_at k m) c → OnEdge planes corners f.support k (cut_at k m) (edge_at k m) d → After planes corners f.support k (cut_at k m) (edge_at k m) c d → IsPart (outer k) (point_of c) (point_of d)
  part k m c d oc od after = record {
    first = on_outer (side_of planes k.side.edge) (point_of c) oc.1;
    second = on_outer (side_of planes k.side.edge) (point_of d) od.1;
    behind = all_from_each (λ p. value (outer k) p ≤ℤ pos 0) points (all_behind k m);
    along = part_along h (step_of planes k.side) (edge_at k m) (point_of c) (point_of d) oc.0 od.0 oc.1 od.1 after;
  }

  part_rows : (m : Plane) (e : Edge) (c : Corner) (cs : List Corner) (z : Corner) → m ≡ outer_side planes e → Each (λ p. IsPart m (point_of p.0) (point_of p.1)) (pairs_from c (cs ++ z ∷ []))
      → Rows IsPart (map (outer_side planes) (map (λ x. e) (c ∷ cs))) (map point_of (c ∷ cs)) (map point_of (cs ++ z ∷ []))
  part_rows m e c [] z same r = (subst (λ g. IsPart g (point_of c) (point_of z)) same r.0, tt)
  part_rows m e c (d ∷ ds) z same r = (subst (λ g. IsPart g (point_of c) (point_of d)) same r.0, part_rows m e d ds z same r.1)

  edge_rows : (k : CutSide) → Member k cuts → Rows IsPart (parts planes k) (map point_of (corners_along k)) (map point_of (rest_of k))
  edge_rows k m =
      let is = edge_at k m in
      let pairs = each_pairs (OnEdge planes corners f.support k (cut_at k m) is) k.side.start (rest_of k) (all_on planes corners f.support k (cut_at k m) is) in
      let next = each_next (After planes corners f.support k (cut_at k m) is) k.side.start (rest_of k) (order planes corners f.support k (cut_at k m) is) in
      part_rows (outer k) k.side.edge k.side.start k.inside k.side.end refl
      (each_from_members (λ p. IsPart (outer k) (point_of p.0) (point_of p.1)) (pairs_from k.side.start (rest_of k)) (λ p mp.
      let on = each_member (λ p. OnEdge planes corners f.support k (cut_at k m) is p.0 × OnEdge planes corners f.support k (cut_at k m) is p.1) p (pairs_from k.side.start (rest_of k)) mp pairs in
      part k m p.0 p.1 on.0 on.1 (each_member (λ p. After planes corners f.support k (cut_at k m) is p.0 p.1) p (pairs_from k.side.start (rest_of k)) mp next)))

  all_rows : (ks : List CutSide) → Each (λ k. Rows IsPart (parts planes k) (map point_of (corners_along k)) (map point_of (rest_of k))) ks
      → Rows IsPart (map (outer_side planes) (flat_map edges_along ks)) (map point_of (flat_map corners_along ks)) (map point_of (flat_map rest_of ks))
  all_rows [] r = tt
  all_rows (k ∷ ks) r =
      rows_same IsPart (parts planes k ++ map (outer_side planes) (flat_map edges_along ks)) (map (outer_side planes) (flat_map edges_along (k ∷ ks)))
      (map point_of (corners_along k) ++ map point_of (flat_map corners_along ks)) (map point_of (flat_map corners_along (k ∷ ks)))
      (map point_of (rest_of k) ++ map point_of (flat_map rest_of ks)) (map point_of (flat_map rest_of (k ∷ ks)))
      (sym (map-append (outer_side planes) (edges_along k) (flat_map edges_along ks))) (sym (map-append point_of (corners_along k) (flat_map corners_along ks))) (sym (map-append point_of (rest_of k) (flat_map rest_of ks)))
      (rows_append IsPart (parts planes k) (map (outer_side planes) (flat_map edges_along ks)) (map point_of (corners_along k)) (map point_of (flat_map corners_along ks)) (map point_of (rest_of k)) (map point_of (flat_map rest_of ks)) r.0 (all_rows ks r.1))

  rows : Rows IsPart (map (outer_side planes) (flat_map edges_along cuts)) points (rotated points)
  rows = subst (Rows IsPart (map (outer_side planes) (flat_map edges_along cuts)) points) (ap (map point_of) (next_corners planes f cuts are) ∙ map-rotated point_of (flat_map corners_along cuts))
      (all_rows cuts (each_from_members (λ k. Rows IsPart (parts planes k) (map point_of (corners_along k)) (map point_of (rest_of k))) cuts edge_rows))

  -- ---- the corners differ
  apart_by : (g : Plane) (p q : Point) → value g p ≡ pos 0 → pos 0 <ℤ value g q → p ≢ q
  apart_by g p q on up same = clash (value g q) (sym (ap (value g) same) ∙ on) up
    where
      clash : (x : ℤ) → x ≡ pos 0 → pos 0 <ℤ x → ⊥
      clash x e l = omega (arith, ints)

  pairs_kept : EachPair (λ k l. KeepEachOther (step_of planes k.side) (step_of planes l.side)) cuts
  pairs_kept = pair_from_map (λ s t. KeepEachOther (step_of planes s) (step_of planes t)) (λ k. k.side) cuts (pair_from_map KeepEachOther (step_of planes) ss facts.pairs)

  starts_apart : EachPair (λ k l. point_of k.side.start ≢ point_of l.side.start) cuts
  starts_apart = pair_from_map (λ s t. point_of s.start ≢ point_of t.start) (λ k. k.side) cuts (pair_from_map (λ c d. point_of c ≢ point_of d) (λ s. s.start) ss (pair_from_map (λ p q. p ≢ q) point_of (map (λ s. s.start) ss) base.different))

  -- of two edges
  two_apart : (k l : CutSide) → Member k cuts → Member l cuts → KeepEachOther (step_of planes k.side) (step_of planes l.side) → point_of k.side.start ≢ point_of l.side.start
      → (c d : Corner) → Member c (corners_along k) → Member d (corners_along l) → point_of c ≢ point_of d
  two_apart k l mk ml keep starts c d (inl p) (inl q) same = starts (ap point_of (sym p) ∙ same ∙ ap point_of q)
  two_apart k l mk ml keep starts c d (inr mc) md same =
      apart_by (side_of planes l.side.edge) (point_of d) (point_of c) (on_edge l ml d md).1 (kept_inside h steps convex (step_of planes k.side) (step_of planes l.side) (point_of c) (step_there k cuts mk) (step_there l cuts ml) keep (within k mk c mc)) (sym same)
  two_apart k l mk ml keep starts c d (inl p) (inr md) same =
      apart_by (side_of planes k.side.edge) (point_of c) (point_of d) (on_edge k mk c (inl p)).1 (kept_inside h steps convex (step_of planes l.side) (step_of planes k.side) (point_of d) (step_there l cuts ml) (step_there k cuts mk) (keep.1, keep.0) (within l ml d md)) same

  own_apart : (k : CutSide) → Member k cuts → EachPair (λ p q. p ≢ q) (map point_of (corners_along k))
  own_apart k m =
      let is = edge_at k m in
      pair_to_map (λ p q. p ≢ q) point_of (corners_along k)
      (weaken (corners_along k) (pair_split (After planes corners f.support k (cut_at k m) is) (corners_along k) (k.side.end ∷ []) (order planes corners f.support k (cut_at k m) is)).0)
    where
      one : (c d : Corner) → After planes corners f.support k (cut_at k m) (edge_at k m) c d → point_of c ≢ point_of d
      one c d after same =
          let self = subst (λ p. pos 0 <ℤ dot (way_between (point_of c) p) (way_between (point_of k.side.start) (point_of k.side.end))) (sym same) after in
          after_once (way_between (point_of k.side.start) (point_of k.side.end)) (point_of c) (point_of c) self self

      weaken : (cs : List Corner) → EachPair (After planes corners f.support k (cut_at k m) (edge_at k m)) cs → EachPair (λ c d. point_of c ≢ point_of d) cs
      weaken [] e = tt
      weaken (c ∷ cs) e = (each_weaker (After planes corners f.support k (cut_at k m) (edge_at k m) c) (λ d. point_of c ≢ point_of d) (one c) cs e.0, weaken cs e.1)

  all_apart : (ks : List CutSide) → Each (λ k. Member k cuts) ks → EachPair (λ k l. KeepEachOther (step_of planes k.side) (step_of planes l.side)) ks → EachPair (λ k l. point_of k.side.start ≢ point_of l.side.start) ks
      → EachPair (λ p q. p ≢ q) (map point_of (flat_map corners_along ks))
  all_apart [] ms keep starts = tt
  all_apart (k ∷ ks) ms keep starts =
      subst (EachPair (λ p q. p ≢ q)) (sym (map-append point_of (corners_along k) (flat_map corners_along ks)))
      (pair_append (λ p q. p ≢ q) (map point_of (corners_along k)) (map point_of (flat_map corners_along ks)) (own_apart k ms.0)
      (each_map (λ p. Each (λ q. p ≢ q) (map point_of (flat_map corners_along ks))) point_of (corners_along k) (each_from_members (λ c. Each (λ q. point_of c ≢ q) (map point_of (flat_map corners_along ks))) (corners_along k) (λ c mc.
      each_along (λ q. point_of c ≢ q) ks (λ l ml d md. two_apart k l ms.0 (each_member (λ k. Member k cuts) l ks ml ms.1) (each_member (λ l. KeepEachOther (step_of planes k.side) (step_of planes l.side)) l ks ml keep.0) (each_member (λ l. point_of k.side.start ≢ point_of l.side.start) l ks ml starts.0) c d mc md))))
      (all_apart ks ms.1 keep.1 starts.1))

  -- ---- each edge has a corner behind it
  point_there : (p : Point) (ks : List CutSide) → Member p (map point_of (map (λ s. s.start) (map (λ k. k.side) ks))) → Member p (map point_of (flat_map corners_along ks))
  point_there p [] m = absurd m
  point_there p (k ∷ ks) (inl same) = inl same
  point_there p (k ∷ ks) (inr m) = inr (subst (Member p) (sym (map-append point_of k.inside (flat_map corners_along ks))) (member_right p (map point_of k.inside) (map point_of (flat_map corners_along ks)) (point_there p ks m)))

  wide : Each (λ k. HasBehind points (outer k)) cuts
  wide = each_weaker (λ k. HasBehind (map point_of (map (λ s. s.start) ss)) (outer k)) (λ k. HasBehind points (outer k)) (λ k b. (b.0, point_there b.0 cuts b.1, b.2)) cuts
      (each_from_map (λ s. HasBehind (map point_of (map (λ s. s.start) ss)) (opposite (side_of planes s.edge))) (λ k. k.side) cuts
      (each_from_map (λ e. HasBehind (map point_of (map (λ s. s.start) ss)) (opposite e.side)) (step_of planes) ss
      (each_from_map (HasBehind (map point_of (map (λ s. s.start) ss))) (λ e. opposite e.side) steps base.wide)))

  longer : (ks : List CutSide) → length (map (λ k. k.side) ks) ≤ length (flat_map corners_along ks)
  longer [] = omega arith
  longer (k ∷ ks) = let rest = longer ks in let e = length-append k.inside (flat_map corners_along ks) in omega (arith, rest, e)

  enough : 3 ≤ length points
  enough = up (length (map point_of (map (λ s. s.start) ss))) (length (map (λ s. s.start) ss)) (length ss) (length (flat_map corners_along cuts)) (length points) base.enough (length-map (map (λ s. s.start) ss) point_of) (length-map ss (λ s. s.start)) (longer cuts) (length-map (flat_map corners_along cuts) point_of)
    where
      up : (a b c d e : ℕ) → 3 ≤ a → a ≡ b → b ≡ c → c ≤ d → e ≡ d → 3 ≤ e
      up a b c d e h p q r s = omega arith

  pub cut_ring : IsRing h (map (outer_side planes) (flat_map edges_along cuts)) points
  cut_ring = record {
    enough = enough;
    flat = flat;
    along = rows;
    different = all_apart cuts (each_from_members (λ k. Member k cuts) cuts (λ k m. m)) pairs_kept starts_apart;
    wide = each_edge (HasBehind points) planes cuts wide;
  }

  pub turned_cut_ring : IsRing (opposite h) (rotated (reverse (map (outer_side planes) (flat_map edges_along cuts)))) (reverse points)
  turned_cut_ring = turned_ring h (map (outer_side planes) (flat_map edges_along cuts)) points cut_ring
