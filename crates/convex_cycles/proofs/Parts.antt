-- The edges that a cut makes of a convex cycle: each is an edge of a convex cycle, and they keep each other.
use Rattle.std.proofs.Common.{◌≡◌, inl, inr, Bool, true, false, List, pos, refl, ap}
use Rattle.spec_space.specs.declared.Point.{Point}
use Rattle.spec_space.specs.declared.Plane.{Plane}
use Rattle.spec_space.specs.Points.{IsPoint, value}
use Rattle.convex_cycles.specs.Sides.{is_in_front}
use Rattle.convex_cycles.specs.Cycles.{Step, IsEdgeOf, KeepEachOther}
use Rattle.convex_cycles.proofs.Lists.{Each, EachPair, Across, each_weaker, each_joined, pair_with, pair_joined}
use Rattle.convex_cycles.proofs.Flags.{front_tells}
use Rattle.convex_cycles.proofs.NewEdges.{leaving, along, leaving-IsEdgeOf, entering-IsEdgeOf, along-IsEdgeOf}
use Rattle.convex_cycles.proofs.Keeping.{Leaves, Enters, OneOrKept, apart, turned, not_two_leaving, not_two_entering}
use Rattle.convex_cycles.proofs.Remains.{parts, parts_of, cut_steps, AreFlags, KeepsSome, HasInside, remaining, remaining_keep, along_keep, crossings_inside}

-- an inner point q on the cut, and the edge v that enters
module _ (s k : Plane) (q : Point) (is_point : IsPoint q) (on : value s q ≡ pos 0) (on_cut : value k q ≡ pos 0) (v : Step) (v_inside : HasInside s k q is_point on on_cut v) (v_enters : Enters k v) where
  -- an edge of the cycle that v enters
  abbrev pub IsOfCycle : Step → Type 0
  IsOfCycle e = HasInside s k q is_point on on_cut e × OneOrKept e v

  edge_and_cut : (x : Step) → IsOfCycle x → Leaves k x → IsEdgeOf s (along k x v)
  edge_and_cut x ox lx = elim ox.1 [
    | inl same ↦ absurd (apart k x.start v.start lx.0 v_enters.0 (ap (λ e. e.start) same))
    | inr keeps ↦
        let inside = crossings_inside s k q is_point on on_cut x v ox.0 v_inside lx v_enters keeps in
        along-IsEdgeOf s k x v ox.0.0 v_inside.0 lx.0 lx.1 v_enters.0 v_enters.1 inside.0 inside.1
  ]

  parts_edges : (x : Step) (b c : Bool) → IsOfCycle x → AreFlags k x b c → Each (IsEdgeOf s) (parts k v x b c)
  parts_edges x true true ox fx = (ox.0.0, tt)
  parts_edges x true false ox fx = (leaving-IsEdgeOf s k x ox.0.0 fx.0 fx.1, (edge_and_cut x ox fx, tt))
  parts_edges x false true ox fx = (entering-IsEdgeOf s k x ox.0.0 fx.0 fx.1, tt)
  parts_edges x false false ox fx = tt

  pub cut_edges : (steps : List Step) → Each IsOfCycle steps → Each (IsEdgeOf s) (cut_steps k v steps)
  cut_edges steps all = each_joined (IsEdgeOf s) (parts_of k v) steps (each_weaker IsOfCycle (λ x. Each (IsEdgeOf s) (parts_of k v x)) (λ x ox. parts_edges x (is_in_front k x.start) (is_in_front k x.end) ox (front_tells k x.start, front_tells k x.end)) steps all)

  -- the edges that one edge gives
  parts_keep : (x : Step) (b c : Bool) → IsOfCycle x → AreFlags k x b c → EachPair KeepEachOther (parts k v x b c)
  parts_keep x true true ox fx = (tt, tt)
  parts_keep x true false ox fx = ((turned (along k x v) (leaving k x) (along_keep s k q is_point on on_cut x v x true false ox.0 v_inside ox.0 fx v_enters fx tt (inl refl) ox.1), tt), (tt, tt))
  parts_keep x false true ox fx = (tt, tt)
  parts_keep x false false ox fx = tt

  -- what is left of one edge, and the new edge behind another that leaves
  along_first : (x y : Step) (d e : Bool) → IsOfCycle x → IsOfCycle y → Leaves k x → AreFlags k y d e → KeepsSome d e → KeepEachOther x y → KeepEachOther (along k x v) (remaining k y d e)
  along_first x y d e ox oy lx fy some keeps = along_keep s k q is_point on on_cut x v y d e ox.0 v_inside oy.0 lx v_enters fy some (inr (turned x y keeps)) oy.1

  along_second : (x y : Step) (b c : Bool) → IsOfCycle x → IsOfCycle y → AreFlags k x b c → KeepsSome b c → Leaves k y → KeepEachOther x y → KeepEachOther (remaining k x b c) (along k y v)
  along_second x y b c ox oy fx some ly keeps = turned (along k y v) (remaining k x b c) (along_first y x b c oy ox ly fx some (turned x y keeps))

  both : (x y : Step) (b c d e : Bool) → IsOfCycle x → IsOfCycle y → AreFlags k x b c → KeepsSome b c → AreFlags k y d e → KeepsSome d e → KeepEachOther x y → KeepEachOther (remaining k x b c) (remaining k y d e)
  both x y b c d e ox oy fx sx fy sy keeps = remaining_keep s k q is_point on on_cut x y b c d e ox.0 oy.0 fx sx fy sy keeps

  -- the edges that two edges give
  across_keep : (x y : Step) (b c d e : Bool) → IsOfCycle x → IsOfCycle y → AreFlags k x b c → AreFlags k y d e → KeepEachOther x y → Across KeepEachOther (parts k v x b c) (parts k v y d e)
  across_keep x y true true true true ox oy fx fy keeps = ((both x y true true true true ox oy fx tt fy tt keeps, tt), tt)
  across_keep x y true true true false ox oy fx fy keeps = ((both x y true true true false ox oy fx tt fy tt keeps, (along_second x y true true ox oy fx tt fy keeps, tt)), tt)
  across_keep x y true true false true ox oy fx fy keeps = ((both x y true true false true ox oy fx tt fy tt keeps, tt), tt)
  across_keep x y true true false false ox oy fx fy keeps = (tt, tt)
  across_keep x y true false true true ox oy fx fy keeps = ((both x y true false true true ox oy fx tt fy tt keeps, tt), ((along_first x y true true ox oy fx fy tt keeps, tt), tt))
  across_keep x y true false true false ox oy fx fy keeps = absurd (not_two_leaving s k x y ox.0.0 oy.0.0 fx fy keeps)
  across_keep x y true false false true ox oy fx fy keeps = ((both x y true false false true ox oy fx tt fy tt keeps, tt), ((along_first x y false true ox oy fx fy tt keeps, tt), tt))
  across_keep x y true false false false ox oy fx fy keeps = (tt, (tt, tt))
  across_keep x y false true true true ox oy fx fy keeps = ((both x y false true true true ox oy fx tt fy tt keeps, tt), tt)
  across_keep x y false true true false ox oy fx fy keeps = ((both x y false true true false ox oy fx tt fy tt keeps, (along_second x y false true ox oy fx tt fy keeps, tt)), tt)
  across_keep x y false true false true ox oy fx fy keeps = absurd (not_two_entering s k x y ox.0.0 oy.0.0 fx fy keeps)
  across_keep x y false true false false ox oy fx fy keeps = (tt, tt)
  across_keep x y false false d e ox oy fx fy keeps = tt

  pub cut_pairs : (steps : List Step) → Each IsOfCycle steps → EachPair KeepEachOther steps → EachPair KeepEachOther (cut_steps k v steps)
  cut_pairs steps all pairs = pair_joined KeepEachOther (parts_of k v) steps
      (each_weaker IsOfCycle (λ x. EachPair KeepEachOther (parts_of k v x)) (λ x ox. parts_keep x (is_in_front k x.start) (is_in_front k x.end) ox (front_tells k x.start, front_tells k x.end)) steps all)
      (pair_with IsOfCycle KeepEachOther (λ x y. Across KeepEachOther (parts_of k v x) (parts_of k v y))
      (λ x y ox oy keeps. across_keep x y (is_in_front k x.start) (is_in_front k x.end) (is_in_front k y.start) (is_in_front k y.end) ox oy (front_tells k x.start, front_tells k x.end) (front_tells k y.start, front_tells k y.end) keeps) steps all pairs)
