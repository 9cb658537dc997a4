-- An edge that is cut at all corners inside it: from its start to its end each corner comes after the one before, and no other
-- corner is between them.
use Rattle.std.proofs.Common.{◌≡◌, ◌⊎◌, ◌≢◌, inl, inr, ℕ, ◌<◌, List, [], ◌∷◌, ◌++◌, map, length, Contains, AllPairs, ℤ, pos, ◌<ℤ◌, refl, sym, ap, ◌∙◌, subst, arith}
use Rattle.std.proofs.lemmas.Int.{ints}
use Rattle.spec_space.specs.declared.Point.{Point}
use Rattle.spec_space.specs.declared.Plane.{Plane}
use Rattle.spec_space.specs.declared.Vector.{Vector}
use Rattle.spec_space.specs.Points.{IsPoint, value, dot, way_between}
use Rattle.spec_space.specs.Sums.{IsSamePoint}
use Rattle.plane_core.specs.declared.numbers.Plane.{Plane as BookPlane}
use Rattle.plane_core.specs.declared.numbers.Corner.{Corner}
use Rattle.plane_core.specs.declared.book.PlaneId.{PlaneId}
use Rattle.plane_core.specs.Views.{point_of}
use Rattle.convex_cycles.specs.Cycles.{Step, IsEdgeOf}
use Rattle.convex_cycles.proofs.Lists.{Each, EachPair, Member, each_member, each_from_members, each_weaker, each_append, each_map, pair_from_all, pair_append, member_left, member_right}
use Rattle.poly_frag.specs.Frags.{plane_at, side_of}
use Rattle.poly_frag.proofs.CornerSigns.{contains_member, member_contains}
use Rattle.poly_frag.proofs.Starts.{on_plane}
use Rattle.line_turns.proofs.Along.{dot_swapped, own_way, after_trans, after_once, after_start, start_before, before_end, end_after}
use Rattle.line_turns.proofs.Between.{IsAfter}
use Rattle.line_turns.proofs.Chains.{pairs_from, last_from, each_pairs, IsOnLine, IsClear, IsCut}
use Rattle.line_turns.proofs.CutLists.{each_next}
use Rattle.line_turns.proofs.Rising.{none_between}
use Rattle.line_turns.proofs.Runs.{way_of}
use Rattle.edge_cut.specs.declared.sides.Side.{Side}
use Rattle.edge_cut.specs.Cuts.{IsInsideEdge, CutSide, ComesAfter, IsCutAt}
use Rattle.edge_cut.specs.Sides.{step_of}
use Rattle.edge_cut.proofs.Cutting.{on_kept_side}
use Rattle.edge_laws.proofs.Named.{place_of, point_at, point_by, point-at_place, at-Member, corner_at, chain_of, chain_end}

-- ---- along the edge
module _ (planes : List BookPlane) (corners : List Corner) (support : PlaneId) (k : CutSide) (cut : IsCutAt planes corners support k) (is : IsEdgeOf (plane_at planes support) (step_of planes k.side)) where
  abbrev pub s : Plane
  s = plane_at planes support

  abbrev pub e : Step
  e = step_of planes k.side

  abbrev pub t : Vector
  t = way_of e

  -- d comes after c
  abbrev pub After : Corner → Corner → Type 0
  After c d = IsAfter t (point_of c) (point_of d)

  abbrev pub OnEdge : Corner → Type 0
  OnEdge c = (value s (point_of c) ≡ pos 0) × (value e.side (point_of c) ≡ pos 0)

  -- the corners from the start to the end
  abbrev pub rest : List Corner
  rest = k.inside ++ k.side.end ∷ []

  own : pos 0 <ℤ dot (way_of e) (way_of e)
  own = own_way s e is

  pub inside : (c : Corner) → Member c k.inside → IsInsideEdge planes support k.side c
  inside c m = ((cut.all c).0 (member_contains c k.inside m)).1

  pub inside_on : (c : Corner) → Member c k.inside → OnEdge c
  inside_on c m = let i = inside c m in (i.on_support, on_kept_side k.side.edge.keep_front (plane_at planes k.side.edge.plane) (point_of c) i.on_edge)

  first : (c : Corner) → Member c k.inside → After k.side.start c
  first c m = let on = inside_on c m in after_start s e is t own (point_of c) on.0 on.1 (inside c m).after_start

  last : (c : Corner) → Member c k.inside → After c k.side.end
  last c m = let on = inside_on c m in before_end s e is t own (point_of c) on.0 on.1 (inside c m).before_end

  pub order : EachPair After (k.side.start ∷ rest)
  order = (
    each_append (After k.side.start) k.inside (k.side.end ∷ []) (each_from_members (After k.side.start) k.inside first) (own, tt),
    pair_append After k.inside (k.side.end ∷ [])
        (turned k.inside (pair_from_all (ComesAfter k.side) k.inside cut.in_order))
        (each_from_members (λ c. Each (After c) (k.side.end ∷ [])) k.inside (λ c m. (last c m, tt)))
        (tt, tt),
  )
    where
      turned_each : (c : Corner) (cs : List Corner) → Each (ComesAfter k.side c) cs → Each (After c) cs
      turned_each c cs h = each_weaker (ComesAfter k.side c) (After c) (λ d r. subst (λ x. pos 0 <ℤ x) (dot_swapped t (way_between (point_of c) (point_of d))) r) cs h

      turned : (cs : List Corner) → EachPair (ComesAfter k.side) cs → EachPair After cs
      turned [] h = tt
      turned (c ∷ cs) h = (turned_each c cs h.0, turned cs h.1)

  pub all_on : Each OnEdge (k.side.start ∷ rest)
  all_on = ((is.start_on, is.start_side), each_append OnEdge k.inside (k.side.end ∷ []) (each_from_members OnEdge k.inside inside_on) ((is.end_on, is.end_side), tt))

  pub all_in : Member k.side.start corners → Member k.side.end corners → Each (λ c. Member c corners) (k.side.start ∷ rest)
  all_in start_in end_in = (start_in, each_append (λ c. Member c corners) k.inside (k.side.end ∷ []) (each_from_members (λ c. Member c corners) k.inside (λ c m. contains_member c corners ((cut.all c).0 (member_contains c k.inside m)).0)) (end_in, tt))

  abbrev FromStart : Corner → Type 0
  FromStart c = (c ≡ k.side.start) ⊎ After k.side.start c

  abbrev ToEnd : Corner → Type 0
  ToEnd c = (c ≡ k.side.end) ⊎ After c k.side.end

  all_within : Each (λ c. FromStart c × ToEnd c) (k.side.start ∷ rest)
  all_within = ((inl refl, inr own), each_append (λ c. FromStart c × ToEnd c) k.inside (k.side.end ∷ []) (each_from_members (λ c. FromStart c × ToEnd c) k.inside (λ c m. (inr (first c m), inr (last c m)))) ((inr own, inl refl), tt))

  -- what comes after one of them and before another is inside the edge
  after_first : (c d : Corner) → FromStart c → After c d → After k.side.start d
  after_first c d (inl same) h = subst (λ x. After x d) same h
  after_first c d (inr up) h = after_trans t (point_of k.side.start) (point_of c) (point_of d) k.side.start.positive c.positive d.positive up h

  before_last : (c d : Corner) → ToEnd c → After d c → After d k.side.end
  before_last c d (inl same) h = subst (After d) same h
  before_last c d (inr up) h = after_trans t (point_of d) (point_of c) (point_of k.side.end) d.positive c.positive k.side.end.positive h up

  none_other : (p : Corner × Corner) → Member p (pairs_from k.side.start rest) → (d : Corner) → Member d corners → OnEdge d → After p.0 d → After d p.1 → ⊥
  none_other p mp d md on low high =
      let w = each_member (λ p. (FromStart p.0 × ToEnd p.0) × (FromStart p.1 × ToEnd p.1)) p (pairs_from k.side.start rest) mp (each_pairs (λ c. FromStart c × ToEnd c) k.side.start rest all_within) in
      let there : Member d k.inside = contains_member d k.inside ((cut.all d).1 (
        member_contains d corners md,
        record {
          on_support = on.0;
          on_edge = on_plane k.side.edge.keep_front (plane_at planes k.side.edge.plane) (point_of d) on.1;
          after_start = start_before s e is t own (point_of d) on.0 on.1 (after_first p.0 d w.0.0 low);
          before_end = end_after s e is t own (point_of d) on.0 on.1 (before_last p.1 d w.1.1 high);
        },
      )) in
      none_between After (λ c d h g. after_once t (point_of c) (point_of d) h g) k.side.start rest order p mp d (inr (member_left d k.inside (k.side.end ∷ []) there)) low high

  -- ---- the chain of places
  abbrev chain : ℕ × List ℕ
  chain = chain_of corners k

  module _ (start_in : Member k.side.start corners) (end_in : Member k.side.end corners) (In : ℕ → Type 0) (given : (c : Corner) → Member c (k.side.start ∷ rest) → In (place_of corners c)) (within : (i : ℕ) → In i → i < length corners) where
    abbrev point : ℕ → Point
    point i = point_at corners i

    pairs_mapped : (c : Corner) (cs : List Corner) → pairs_from (place_of corners c) (map (place_of corners) cs) ≡ map (λ p. (place_of corners p.0, place_of corners p.1)) (pairs_from c cs)
    pairs_mapped c [] = refl
    pairs_mapped c (d ∷ ds) = ap (λ ps. (place_of corners c, place_of corners d) ∷ ps) (pairs_mapped d ds)

    point_here : (c : Corner) → Member c corners → point (place_of corners c) ≡ point_of c
    point_here c m = point-at_place corners c m

    same_itself : (p q : Point) → q ≡ p → IsSamePoint p q
    same_itself p q h = subst (IsSamePoint p) (sym h) (record { same_x = refl; same_y = refl; same_z = refl })

    pair_facts : Each (λ p. (Member p.0 corners × Member p.1 corners) × Member p (pairs_from k.side.start rest)) (pairs_from k.side.start rest)
    pair_facts = each_from_members (λ p. (Member p.0 corners × Member p.1 corners) × Member p (pairs_from k.side.start rest)) (pairs_from k.side.start rest)
        (λ p m. (each_member (λ p. Member p.0 corners × Member p.1 corners) p (pairs_from k.side.start rest) m (each_pairs (λ c. Member c corners) k.side.start rest (all_in start_in end_in)), m))

    abbrev Rises : ℕ × ℕ → Type 0
    Rises p = IsAfter t (point p.0) (point p.1)

    rises : (p : Corner × Corner) → Member p.0 corners → Member p.1 corners → After p.0 p.1 → Rises (place_of corners p.0, place_of corners p.1)
    rises p m n h = subst (λ x. IsAfter t x (point (place_of corners p.1))) (sym (point_here p.0 m)) (subst (IsAfter t (point_of p.0)) (sym (point_here p.1 n)) h)

    clear : (p : Corner × Corner) → Member p.0 corners → Member p.1 corners → Member p (pairs_from k.side.start rest) → IsClear point In s e (place_of corners p.0, place_of corners p.1)
    clear p m n mp i ii li low high =
        let d = corner_at corners i (within i ii) in
        let here : point i ≡ point_of d.0 = ap point_by d.1 in
        none_other p mp d.0 (at-Member corners i d.0 d.1) (subst (λ x. value s x ≡ pos 0) here li.0, subst (λ x. value e.side x ≡ pos 0) here li.1)
        (subst (IsAfter t (point_of p.0)) here (subst (λ x. IsAfter t x (point i)) (point_here p.0 m) low))
        (subst (λ x. IsAfter t x (point_of p.1)) here (subst (IsAfter t (point i)) (point_here p.1 n) high))

    pub chain-IsCut : IsCut point In s e chain.0 chain.1
    chain-IsCut = record {
      starts = same_itself (point_of k.side.start) (point (place_of corners k.side.start)) (point_here k.side.start start_in);
      ends = same_itself (point_of k.side.end) (point (last_from chain.0 chain.1)) (ap point (chain_end corners k) ∙ point_here k.side.end end_in);
      corners = each_map In (place_of corners) (k.side.start ∷ rest) (each_from_members (λ c. In (place_of corners c)) (k.side.start ∷ rest) given);
      on_line = each_map (IsOnLine point s e) (place_of corners) (k.side.start ∷ rest)
          (each_from_members (λ c. IsOnLine point s e (place_of corners c)) (k.side.start ∷ rest) (λ c m.
          let on = each_member OnEdge c (k.side.start ∷ rest) m all_on in
          let here = point_here c (each_member (λ c. Member c corners) c (k.side.start ∷ rest) m (all_in start_in end_in)) in
          (subst (λ x. value s x ≡ pos 0) (sym here) on.0, subst (λ x. value e.side x ≡ pos 0) (sym here) on.1)));
      rising = subst (Each Rises) (sym (pairs_mapped k.side.start rest)) (each_map Rises (λ p. (place_of corners p.0, place_of corners p.1)) (pairs_from k.side.start rest)
          (each_from_members (λ p. Rises (place_of corners p.0, place_of corners p.1)) (pairs_from k.side.start rest) (λ p m.
          let f = each_member (λ p. (Member p.0 corners × Member p.1 corners) × Member p (pairs_from k.side.start rest)) p (pairs_from k.side.start rest) m pair_facts in
          rises p f.0.0 f.0.1 (each_member (λ p. After p.0 p.1) p (pairs_from k.side.start rest) m (each_next After k.side.start rest order)))));
      complete = subst (Each (IsClear point In s e)) (sym (pairs_mapped k.side.start rest)) (each_map (IsClear point In s e) (λ p. (place_of corners p.0, place_of corners p.1)) (pairs_from k.side.start rest)
          (each_from_members (λ p. IsClear point In s e (place_of corners p.0, place_of corners p.1)) (pairs_from k.side.start rest) (λ p m.
          let f = each_member (λ p. (Member p.0 corners × Member p.1 corners) × Member p (pairs_from k.side.start rest)) p (pairs_from k.side.start rest) m pair_facts in
          clear p f.0.0 f.0.1 m)));
    }
