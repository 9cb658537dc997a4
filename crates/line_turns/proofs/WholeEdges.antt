-- An edge that needs no cut: where each corner is the common point of three planes that do not cross the edge, no corner lies
-- inside it. So it is with the pieces into which planes cut one another.
use Rattle.std.proofs.Common.{◌≡◌, ◌≢◌, ◌⊎◌, inl, inr, Bool, true, false, List, [], ◌∷◌, ℤ, pos, neg_ℤ, ◌<ℤ◌, ◌≤ℤ◌, ◌∙◌, arith}
use Rattle.std.proofs.lemmas.Int.{ints}
use Rattle.spec_space.specs.declared.Point.{Point}
use Rattle.spec_space.specs.declared.Plane.{Plane}
use Rattle.spec_space.specs.Points.{IsPoint, cross, dot, normal, value, opposite}
use Rattle.spec_space.specs.Sums.{IsSamePoint}
use Rattle.integer_laws.proofs.Cancel.{sign_cases}
use Rattle.plane_core.proofs.Laws.{common_point_unique}
use Rattle.convex_cycles.specs.Cycles.{Step, IsEdgeOf, AreConvex}
use Rattle.convex_cycles.proofs.Crossings.{In, Touches}
use Rattle.convex_cycles.proofs.CutCycles.{to_cycle, linked, edge_of, start_touches, end_touches}
use Rattle.convex_cycles.proofs.Hull.{value-opposite, closure}
use Rattle.convex_cycles.proofs.Inner.{inner_point}
use Rattle.convex_cycles.proofs.Links.{sides, each_mapped}
use Rattle.convex_cycles.proofs.Lists.{Each, Member}
use Rattle.line_turns.proofs.Along.{own_way, start_before, end_after}
use Rattle.line_turns.proofs.Between.{after_same, before_same}
use Rattle.line_turns.proofs.Chains.{IsOnLine, IsCut, same_turned}
use Rattle.line_turns.proofs.Neighbours.{IsStrictly}
use Rattle.line_turns.proofs.Pieces.{IsInsideEdge, up_from_start, up_from_end}
use Rattle.line_turns.proofs.Runs.{way_of}
use Rattle.line_turns.proofs.Surface.{same_zero}

-- the edge lies on one side of the plane, or on it
abbrev pub IsOneSided : Step → Plane → Type 0
IsOneSided e h = ((pos 0 ≤ℤ value h e.start) × (pos 0 ≤ℤ value h e.end)) ⊎ ((value h e.start ≤ℤ pos 0) × (value h e.end ≤ℤ pos 0))

-- three planes that meet in one point, p, none of which crosses the edge
pub record IsMetBeside (e : Step) (p : Point) : Type 0 where
  pub first : Plane
  pub second : Plane
  pub third : Plane
  pub independent : dot (normal first) (cross (normal second) (normal third)) ≢ pos 0
  pub on_first : value first p ≡ pos 0
  pub on_second : value second p ≡ pos 0
  pub on_third : value third p ≡ pos 0
  pub beside_first : IsOneSided e first
  pub beside_second : IsOneSided e second
  pub beside_third : IsOneSided e third

level_up : (x : ℤ) → x ≡ pos 0 → pos 0 <ℤ x → ⊥
level_up x e h = omega (arith, ints)

level_unless : (x : ℤ) → pos 0 ≤ℤ x → (pos 0 <ℤ x → ⊥) → x ≡ pos 0
level_unless x h k = elim (sign_cases x) [
  | inl low ↦ absurd (under x h low)
  | inr (inl none) ↦ none
  | inr (inr high) ↦ absurd (k high)
]
  where
    under : (x : ℤ) → pos 0 ≤ℤ x → x <ℤ pos 0 → ⊥
    under x h k = omega (arith, ints)

-- a plane that holds a point inside the edge and keeps both ends holds both ends
holds_ends_up : (s h : Plane) (e : Step) (m : Point) → IsEdgeOf s e → IsInsideEdge s e m → value h m ≡ pos 0 → pos 0 ≤ℤ value h e.start → pos 0 ≤ℤ value h e.end → (value h e.start ≡ pos 0) × (value h e.end ≡ pos 0)
holds_ends_up s h e m is inside on a b = (
  level_unless (value h e.start) a (λ up. level_up (value h m) on (up_from_start s h e m is inside up b)),
  level_unless (value h e.end) b (λ up. level_up (value h m) on (up_from_end s h e m is inside a up)),
)

holds_ends : (s h : Plane) (e : Step) (m : Point) → IsEdgeOf s e → IsInsideEdge s e m → value h m ≡ pos 0 → IsOneSided e h → (value h e.start ≡ pos 0) × (value h e.end ≡ pos 0)
holds_ends s h e m is inside on (inl up) = holds_ends_up s h e m is inside on up.0 up.1
holds_ends s h e m is inside on (inr down) =
    let r = holds_ends_up s (opposite h) e m is inside (value-opposite h m ∙ turned (value h m) on) (raised (value h e.start) (value (opposite h) e.start) (value-opposite h e.start) down.0) (raised (value h e.end) (value (opposite h) e.end) (value-opposite h e.end) down.1) in
    (back (value h e.start) (value (opposite h) e.start) (value-opposite h e.start) r.0, back (value h e.end) (value (opposite h) e.end) (value-opposite h e.end) r.1)
  where
    turned : (x : ℤ) → x ≡ pos 0 → neg_ℤ x ≡ pos 0
    turned x e = omega (arith, ints)

    raised : (x y : ℤ) → y ≡ neg_ℤ x → x ≤ℤ pos 0 → pos 0 ≤ℤ y
    raised x y e h = omega (arith, ints)

    back : (x y : ℤ) → y ≡ neg_ℤ x → y ≡ pos 0 → x ≡ pos 0
    back x y e h = omega (arith, ints)

-- so no such corner lies inside the edge
pub none_inside : (s : Plane) (e : Step) (m : Point) → IsEdgeOf s e → IsInsideEdge s e m → IsMetBeside e m → ⊥
none_inside s e m is inside met =
    let f = holds_ends s met.first e m is inside met.on_first met.beside_first in
    let g = holds_ends s met.second e m is inside met.on_second met.beside_second in
    let h = holds_ends s met.third e m is inside met.on_third met.beside_third in
    level_up (value e.next e.start)
    (same_zero e.next e.end e.start is.end_point (common_point_unique met.first met.second met.third e.end e.start met.independent f.1 g.1 h.1 f.0 g.0 h.0) is.end_next)
    is.inside_next

-- where all points inside a piece lie on one side of a plane, its edges do not cross that plane
ends_up : (s h : Plane) (steps : List Step) → AreConvex s steps → ((p : Point) → IsPoint p → value s p ≡ pos 0 → Each (In p) (sides steps) → pos 0 <ℤ value h p) → (e : Step) → Member e steps → (pos 0 ≤ℤ value h e.start) × (pos 0 ≤ℤ value h e.end)
ends_up s h steps convex up e me =
    let cycle = to_cycle s steps convex in
    let m = inner_point s steps (linked s steps cycle) in
    let is = edge_of s steps cycle e me in
    let whole : (p : Point) → IsPoint p → value s p ≡ pos 0 → Each (In p) (sides steps) → Each (In p) (h ∷ []) = λ p ip on within. (up p ip on within, tt) in
    let first : Each (Touches e.start) (h ∷ []) = closure s (sides steps) (h ∷ []) whole m.point m.is_point m.on m.within e.start is.start_point is.start_on (each_mapped (Touches e.start) (λ f. f.side) steps (λ f mf. start_touches s steps cycle f e mf me)) in
    let second : Each (Touches e.end) (h ∷ []) = closure s (sides steps) (h ∷ []) whole m.point m.is_point m.on m.within e.end is.end_point is.end_on (each_mapped (Touches e.end) (λ f. f.side) steps (λ f mf. end_touches s steps cycle f e mf me)) in
    (first.0, second.0)

pub one_sided : (b : Bool) (s h : Plane) (steps : List Step) → AreConvex s steps → ((p : Point) → IsPoint p → value s p ≡ pos 0 → Each (In p) (sides steps) → IsStrictly b (value h p)) → (e : Step) → Member e steps → IsOneSided e h
one_sided true s h steps convex up e me = inl (ends_up s h steps convex up e me)
one_sided false s h steps convex down e me =
    let r = ends_up s (opposite h) steps convex (λ p ip on within. raised (value h p) (value (opposite h) p) (value-opposite h p) (down p ip on within)) e me in
    inr (lowered (value h e.start) (value (opposite h) e.start) (value-opposite h e.start) r.0, lowered (value h e.end) (value (opposite h) e.end) (value-opposite h e.end) r.1)
  where
    raised : (x y : ℤ) → y ≡ neg_ℤ x → x <ℤ pos 0 → pos 0 <ℤ y
    raised x y e h = omega (arith, ints)

    lowered : (x y : ℤ) → y ≡ neg_ℤ x → pos 0 ≤ℤ y → x ≤ℤ pos 0
    lowered x y e h = omega (arith, ints)

module _ {C : Type 0} (point : C → Point) (In : C → Type 0) (points : (c : C) → In c → IsPoint (point c)) where
  -- the edge from c to d is cut at every corner on it, since there is none but its ends
  pub whole_edge : (s : Plane) (e : Step) (c d : C) → IsEdgeOf s e → In c → In d → IsSamePoint e.start (point c) → IsSamePoint e.end (point d)
      → ((x : C) → In x → IsOnLine point s e x → IsMetBeside e (point x)) → IsCut point In s e c (d ∷ [])
  whole_edge s e c d is ic id starts ends met =
      let sc = same_zero s e.start (point c) is.start_point starts is.start_on in
      let ec = same_zero e.side e.start (point c) is.start_point starts is.start_side in
      let sd = same_zero s e.end (point d) is.end_point ends is.end_on in
      let ed = same_zero e.side e.end (point d) is.end_point ends is.end_side in
      let own = own_way s e is in
      record {
        starts = starts;
        ends = ends;
        corners = (ic, (id, tt));
        on_line = ((sc, ec), ((sd, ed), tt));
        rising = (after_same (way_of e) (point c) e.end (point d) is.end_point (points d id) ends (before_same (way_of e) e.start (point c) e.end is.start_point (points c ic) starts own), tt);
        complete = (
          λ x ix lx u v. none_inside s e (point x) is (record {
            on = lx.0;
            on_side = lx.1;
            after_start = start_before s e is (way_of e) own (point x) lx.0 lx.1 (before_same (way_of e) (point c) e.start (point x) (points c ic) is.start_point (same_turned e.start (point c) starts) u);
            before_end = end_after s e is (way_of e) own (point x) lx.0 lx.1 (after_same (way_of e) (point x) (point d) e.end (points d id) is.end_point (same_turned e.end (point d) ends) v);
          }) (met x ix lx),
          tt,
        );
      }
