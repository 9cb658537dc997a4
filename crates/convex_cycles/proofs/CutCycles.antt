-- A convex cycle that a plane cuts: what is left is a convex cycle.
use Rattle.std.proofs.Common.{◌≡◌, inl, List, [], ◌∷◌, pos, ◌<ℤ◌, ◌≤ℤ◌, refl}
use Rattle.spec_space.specs.declared.Point.{Point}
use Rattle.spec_space.specs.declared.Plane.{Plane}
use Rattle.spec_space.specs.Points.{IsPoint, value}
use Rattle.convex_cycles.specs.Cycles.{Step, IsEdgeOf, KeepEachOther, IsRound, AreConvex}
use Rattle.convex_cycles.proofs.Lists.{Each, EachPair, Member, each_member, each_from_members, each_from_all, all_from_each, pair_from_all, all_from_pair}
use Rattle.convex_cycles.proofs.Crossings.{In}
use Rattle.convex_cycles.proofs.Links.{IsLinked, sides, side_member}
use Rattle.convex_cycles.proofs.Keeping.{Enters, OneOrKept, member_pair, touches_start, touches_end}
use Rattle.convex_cycles.proofs.Rounds.{before, after}
use Rattle.convex_cycles.proofs.Remains.{cut_steps}
use Rattle.convex_cycles.proofs.Parts.{cut_edges, cut_pairs}
use Rattle.convex_cycles.proofs.CutRounds.{cut_round}

-- the facts of a convex cycle by recursion on its list
pub record CycleFacts (s : Plane) (steps : List Step) : Type 0 where
  pub round : IsRound steps
  pub edges : Each (IsEdgeOf s) steps
  pub pairs : EachPair KeepEachOther steps

pub to_cycle : (s : Plane) (steps : List Step) → AreConvex s steps → CycleFacts s steps
to_cycle s steps c = record { round = c.round; edges = each_from_all (IsEdgeOf s) steps c.edges; pairs = pair_from_all KeepEachOther steps c.convex }

pub from_cycle : (s : Plane) (steps : List Step) → CycleFacts s steps → AreConvex s steps
from_cycle s steps c = record { round = c.round; edges = all_from_each (IsEdgeOf s) steps c.edges; convex = all_from_pair KeepEachOther steps c.pairs }

-- an inner point of a cycle: in its plane, and strictly inside each side
pub record IsInner (s : Plane) (steps : List Step) (q : Point) : Type 0 where
  pub is_point : IsPoint q
  pub on : value s q ≡ pos 0
  pub within : Each (In q) (sides steps)

module _ (s : Plane) (steps : List Step) (cycle : CycleFacts s steps) where
  pub edge_of : (e : Step) → Member e steps → IsEdgeOf s e
  edge_of e m = each_member (IsEdgeOf s) e steps m cycle.edges

  -- each corner lies inside each side, weakly
  pub start_touches : (e f : Step) → Member e steps → Member f steps → pos 0 ≤ℤ value e.side f.start
  start_touches e f m n = touches_start s e f (edge_of e m) (member_pair e f steps cycle.pairs m n)

  pub end_touches : (e f : Step) → Member e steps → Member f steps → pos 0 ≤ℤ value e.side f.end
  end_touches e f m n = touches_end s e f (edge_of e m) (member_pair e f steps cycle.pairs m n)

  -- the steps by membership
  pub linked : IsLinked s steps
  linked =
      let e = some_member steps cycle.round in
      record {
        first = e.0;
        first_of = e.1;
        edges = cycle.edges;
        inside = start_touches;
        before = λ e m. let r = before steps cycle.round e m in record { step = r.0; of_list = r.1; holds = r.2 };
        after = λ e m. let r = after steps cycle.round e m in record { step = r.0; of_list = r.1; holds = r.2 };
      }
    where
      some_member : (es : List Step) → IsRound es → (e : Step) × Member e es
      some_member [] round = absurd round
      some_member (e ∷ es) round = (e, inl refl)

  inside_of : (q : Point) → IsInner s steps q → (e : Step) → Member e steps → In q e.side
  inside_of q inner e m = each_member (In q) e.side (sides steps) (side_member e steps m) inner.within

  -- the new cycle, where the edge v enters and q is an inner point on the cut
  pub cut-facts : (k : Plane) (q : Point) → IsInner s steps q → value k q ≡ pos 0 → (v : Step) → Member v steps → Enters k v → CycleFacts s (cut_steps k v steps)
  cut-facts k q inner on_cut v m nv =
      let v_edge = edge_of v m in
      let v_inside = inside_of q inner v m in
      let all = each_from_members (λ e. (IsEdgeOf s e × (pos 0 <ℤ value e.side q)) × OneOrKept e v) steps
      (λ e n. ((edge_of e n, inside_of q inner e n), member_pair e v steps cycle.pairs n m)) in
      let stands = each_from_members (λ e. IsEdgeOf s e × OneOrKept e v) steps (λ e n. (edge_of e n, member_pair e v steps cycle.pairs n m)) in
      record {
        round = cut_round s k v v_edge nv steps stands cycle.round m;
        edges = cut_edges s k q inner.is_point inner.on on_cut v (v_edge, v_inside) nv steps all;
        pairs = cut_pairs s k q inner.is_point inner.on on_cut v (v_edge, v_inside) nv steps all cycle.pairs;
      }
