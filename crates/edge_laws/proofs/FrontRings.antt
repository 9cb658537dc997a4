-- The edges of a convex cycle between its reduced corners, seen from the front of its plane.
use Rattle.std.proofs.Common.{◌≡◌, ◌≢◌, inl, inr, ◌≤◌, List, [], ◌∷◌, ◌++◌, map, length, ℤ, pos, neg_ℤ, ◌*ℤ◌, ◌<ℤ◌, ◌≤ℤ◌, refl, sym, ap, ◌∙◌, subst, arith}
use Rattle.std.proofs.lemmas.Int.{ints}
use Rattle.integer_laws.proofs.Ring.{*ℤ_comm}
use Rattle.integer_laws.proofs.Signs.{mul_positive}
use Rattle.spec_space.specs.declared.Point.{Point}
use Rattle.spec_space.specs.declared.Plane.{Plane}
use Rattle.spec_space.specs.Points.{IsPoint, value, opposite}
use Rattle.spec_page.specs.Faces.{rotated, IsEdge}
use Rattle.plane_core.specs.declared.numbers.Corner.{Corner}
use Rattle.spec_space.specs.Sums.{IsSamePoint}
use Rattle.plane_core.specs.Views.{point_of}
use Rattle.integer_laws.proofs.Cancel.{zero_right, positive_right, nonpos_right, mul_nonpos}
use Rattle.convex_cycles.specs.Cycles.{Step, IsEdgeOf, AreChained, IsRound, Keeps, KeepEachOther, AreConvex, turn}
use Rattle.convex_cycles.proofs.Lists.{Each, EachPair, Member, all_from_each, each_from_members}
use Rattle.convex_cycles.proofs.Orders.{weaker, turned_down}
use Rattle.convex_cycles.proofs.Turns.{turned}
use Rattle.convex_cycles.proofs.Links.{IsLinked, edge, far_corner, each_mapped}
use Rattle.convex_cycles.proofs.Hull.{value-opposite, opposite_low}
use Rattle.convex_cycles.proofs.CutCycles.{CycleFacts, to_cycle, linked}
use Rattle.poly_frag.proofs.Starts.{AreStarts, same_values}
use Rattle.edge_laws.proofs.Rows.{Rows, rows_weaker}
use Rattle.edge_laws.proofs.Runs.{IsRun, along_front}

-- ---- what holds of a point holds of another spelling of it
on_corner : (h : Plane) (p q : Point) → IsPoint q → IsSamePoint p q → value h q ≡ pos 0 → value h p ≡ pos 0
on_corner h p q hq s e = zero_right q.w (value h p) hq (*ℤ_comm q.w (value h p) ∙ same_values h p q s ∙ ap (λ v. v *ℤ p.w) e ∙ none p.w)
  where
    none : (x : ℤ) → pos 0 *ℤ x ≡ pos 0
    none x = omega (arith, ints)

in_corner : (h : Plane) (p q : Point) → IsPoint p → IsPoint q → IsSamePoint p q → pos 0 <ℤ value h q → pos 0 <ℤ value h p
in_corner h p q hp hq s i = positive_right q.w (value h p) hq (subst (λ v. pos 0 <ℤ v) (sym (same_values h p q s) ∙ *ℤ_comm (value h p) q.w) (mul_positive (value h q) p.w i hp))

behind_corner : (h : Plane) (p q : Point) → IsPoint p → IsPoint q → IsSamePoint p q → value h q ≤ℤ pos 0 → value h p ≤ℤ pos 0
behind_corner h p q hp hq s l = nonpos_right q.w (value h p) hq (subst (λ v. v ≤ℤ pos 0) (*ℤ_comm p.w (value h q) ∙ sym (same_values h p q s) ∙ *ℤ_comm (value h p) q.w) (mul_nonpos p.w (value h q) (weaker p.w hp) l))

-- a fact of each corner from one of each step's start
each_corner : (P Q : Point → Type 0) → ((p q : Point) → IsPoint p → IsSamePoint p q → Q q → P p) → (cs : List Corner) (es : List Step) → AreStarts cs es → Each (λ e. Q e.start) es → Each P (map point_of cs)
each_corner P Q h [] [] a q = tt
each_corner P Q h (c ∷ cs) (e ∷ es) a q = (h (point_of c) e.start c.positive a.0 q.0, each_corner P Q h cs es a.1 q.1)
each_corner P Q h _ _ a q = absurd a

-- a corner that is this point
record HasCornerAt (points : List Point) (q : Point) : Type 0 where
  pub point : Point
  pub is_point : IsPoint point
  pub same : IsSamePoint point q
  pub of_list : Member point points

corner_of_step : (cs : List Corner) (es : List Step) → AreStarts cs es → (e : Step) → Member e es → HasCornerAt (map point_of cs) e.start
corner_of_step cs [] a e m = absurd m
corner_of_step [] (f ∷ es) a e m = absurd a
corner_of_step (c ∷ cs) (f ∷ es) a e (inl same) = record { point = point_of c; is_point = c.positive; same = subst (λ (g : Step). IsSamePoint (point_of c) g.start) (sym same) a.0; of_list = inl refl }
corner_of_step (c ∷ cs) (f ∷ es) a e (inr m) =
    let r = corner_of_step cs es a.1 e m in
    record { point = r.point; is_point = r.is_point; same = r.same; of_list = inr r.of_list }

-- ---- one edge
abbrev outer : Step → Plane
outer e = opposite e.side

-- a run along an outer side that leaves no corner in front
abbrev IsBounded : Plane → List Point → Plane → Point → Point → Type 0
IsBounded s points m u v = IsRun s m u v × Each (λ p. value m p ≤ℤ pos 0) points

run_of : (s : Plane) (e : Step) (u v : Point) → IsPoint u → IsPoint v → IsEdgeOf s e → IsSamePoint u e.start → IsSamePoint v e.end → IsRun s (outer e) u v
run_of s e u v hu hv is su sv = record {
  side = e.side;
  next = e.next;
  outer = refl;
  first_point = hu;
  second_point = hv;
  first_on = on_corner s u e.start is.start_point su is.start_on;
  second_on = on_corner s v e.end is.end_point sv is.end_on;
  first_side = on_corner e.side u e.start is.start_point su is.start_side;
  second_side = on_corner e.side v e.end is.end_point sv is.end_side;
  second_next = on_corner e.next v e.end is.end_point sv is.end_next;
  inside_next = in_corner e.next u e.start hu is.start_point su is.inside_next;
  left = is.left_next;
}

on_outer : (m h : Plane) (p : Point) → m ≡ opposite h → value h p ≡ pos 0 → value m p ≡ pos 0
on_outer m h p e on = ap (λ k. value k p) e ∙ value-opposite h p ∙ ap neg_ℤ on

front_edge : (s : Plane) (points : List Point) (m : Plane) (u v : Point) → IsBounded s points m u v → IsEdge s m u v points
front_edge s points m u v b = record {
  first = on_outer m b.0.side u b.0.outer b.0.first_side;
  second = on_outer m b.0.side v b.0.outer b.0.second_side;
  behind = all_from_each (λ p. value m p ≤ℤ pos 0) points b.1;
  along = along_front s m u v b.0;
}

-- ---- the edges of a chain, up to the corner where the last of them ends
chain_rows : (s : Plane) (points : List Point) (e : Step) (fs : List Step) (last : Step) (c : Corner) (cs : List Corner) (first : Corner)
    → Each (IsEdgeOf s) (e ∷ fs) → Each (λ f. Each (λ p. value (outer f) p ≤ℤ pos 0) points) (e ∷ fs)
    → AreChained e fs last → AreStarts (c ∷ cs) (e ∷ fs) → IsSamePoint (point_of first) last.start
    → Rows (IsBounded s points) (map outer (e ∷ fs)) (map point_of (c ∷ cs)) (map point_of cs ++ point_of first ∷ [])
chain_rows s points e [] last c [] first is behind chain a same =
    ((run_of s e (point_of c) (point_of first) c.positive first.positive is.0 a.0 (subst (IsSamePoint (point_of first)) (sym chain.0) same), behind.0), tt)
chain_rows s points e [] last c (d ∷ cs) first is behind chain a same = absurd a.1
chain_rows s points e (f ∷ fs) last c [] first is behind chain a same = absurd a.1
chain_rows s points e (f ∷ fs) last c (d ∷ cs) first is behind chain a same = (
  (run_of s e (point_of c) (point_of d) c.positive d.positive is.0 a.0 (subst (IsSamePoint (point_of d)) (sym chain.0.0) a.1.0), behind.0),
  chain_rows s points f fs last d cs first is.1 behind.1 chain.1 a.1 same,
)

round_rows : (s : Plane) (points : List Point) (steps : List Step) (cs : List Corner) → CycleFacts s steps → Each (λ f. Each (λ p. value (outer f) p ≤ℤ pos 0) points) steps → AreStarts cs steps
    → Rows (IsBounded s points) (map outer steps) (map point_of cs) (rotated (map point_of cs))
round_rows s points [] cs cycle behind a = absurd cycle.round
round_rows s points (e ∷ es) [] cycle behind a = absurd a
round_rows s points (e ∷ es) (c ∷ cs) cycle behind a = chain_rows s points e es e c cs c cycle.edges behind cycle.round a a.0

-- ---- a cycle has three corners or more
same_turn : (s g h : Plane) → pos 0 <ℤ turn s g h → pos 0 <ℤ turn s h g → ⊥
same_turn s g h l r = clash (turn s g h) (turn s h g) l r (turned s g h)
  where
    clash : (x y : ℤ) → pos 0 <ℤ x → pos 0 <ℤ y → y ≡ neg_ℤ x → ⊥
    clash x y l r e = omega (arith, ints)

enough_corners : (s : Plane) (cs : List Corner) (es : List Step) → AreStarts cs es → IsRound es → Each (IsEdgeOf s) es → 3 ≤ length (map point_of cs)
enough_corners s [] [] a round is = absurd round
enough_corners s [] (e ∷ es) a round is = absurd a
enough_corners s (c ∷ cs) [] a round is = absurd a
enough_corners s (c ∷ []) (e ∷ []) a round is =
    let left = subst (λ h. pos 0 <ℤ turn s e.side h) round.1 is.0.left_next in absurd (same_turn s e.side e.side left left)
enough_corners s (c ∷ []) (e ∷ f ∷ es) a round is = absurd a.1
enough_corners s (c ∷ d ∷ cs) (e ∷ []) a round is = absurd a.1
enough_corners s (c ∷ d ∷ []) (e ∷ f ∷ []) a round is =
    absurd (same_turn s e.side f.side (subst (λ h. pos 0 <ℤ turn s e.side h) round.0.1 is.0.left_next) (subst (λ h. pos 0 <ℤ turn s f.side h) round.1.1 is.1.0.left_next))
enough_corners s (c ∷ d ∷ []) (e ∷ f ∷ g ∷ es) a round is = absurd a.1.1
enough_corners s (c ∷ d ∷ x ∷ cs) (e ∷ f ∷ []) a round is = absurd a.1.1
enough_corners s (c ∷ d ∷ x ∷ cs) (e ∷ f ∷ g ∷ es) a round is = omega arith

-- ---- its corners differ
-- points at which a plane has the value 0 and a value above 0
parted : (h : Plane) (p q : Point) → value h p ≡ pos 0 → pos 0 <ℤ value h q → p ≢ q
parted h p q on inside same = clash (value h q) (sym (ap (value h) same) ∙ on) inside
  where
    clash : (x : ℤ) → x ≡ pos 0 → pos 0 <ℤ x → ⊥
    clash x e l = omega (arith, ints)

differ : (s : Plane) (e f : Step) (p q : Point) → IsEdgeOf s e → IsEdgeOf s f → Keeps e f → IsPoint q → IsSamePoint p e.start → IsSamePoint q f.start → p ≢ q
differ s e f p q ie if_ keeps hq sp sq = elim keeps.0 [
  | inl inside ↦ parted e.side p q (on_corner e.side p e.start ie.start_point sp ie.start_side) (in_corner e.side q f.start hq if_.start_point sq inside)
  | inr same ↦ parted e.prev p q (on_corner e.prev p e.start ie.start_point sp ie.start_prev) (in_corner e.prev q f.start hq if_.start_point sq (subst (λ x. pos 0 <ℤ value e.prev x) same ie.inside_prev))
]

each_differs : (s : Plane) (e : Step) (p : Point) (cs : List Corner) (es : List Step) → IsEdgeOf s e → IsSamePoint p e.start → AreStarts cs es → Each (IsEdgeOf s) es → Each (KeepEachOther e) es → Each (λ q. p ≢ q) (map point_of cs)
each_differs s e p [] [] ie sp a is keep = tt
each_differs s e p (c ∷ cs) (f ∷ es) ie sp a is keep = (differ s e f p (point_of c) ie is.0 keep.0.0 c.positive sp a.0, each_differs s e p cs es ie sp a.1 is.1 keep.1)
each_differs s e p _ _ ie sp a is keep = absurd a

all_differ : (s : Plane) (cs : List Corner) (es : List Step) → AreStarts cs es → Each (IsEdgeOf s) es → EachPair KeepEachOther es → EachPair (λ p q. p ≢ q) (map point_of cs)
all_differ s [] [] a is keep = tt
all_differ s (c ∷ cs) (e ∷ es) a is keep = (each_differs s e (point_of c) cs es is.0 a.0 a.1 is.1 keep.0, all_differ s cs es a.1 is.1 keep.1)
all_differ s _ _ a is keep = absurd a

-- ---- the ring of a face
abbrev pub HasBehind : List Point → Plane → Type 0
HasBehind points m = (p : Point) × Member p points × (value m p <ℤ pos 0)

-- the corners and edge planes of a full face on the plane h
pub record IsRing (h : Plane) (edges : List Plane) (points : List Point) : Type 0 where
  pub enough : 3 ≤ length points
  pub flat : Each (λ p. value h p ≡ pos 0) points
  pub along : Rows (λ m u v. IsEdge h m u v points) edges points (rotated points)
  pub different : EachPair (λ p q. p ≢ q) points
  pub wide : Each (HasBehind points) edges

module _ (s : Plane) (steps : List Step) (cs : List Corner) (convex : AreConvex s steps) (starts : AreStarts cs steps) where
  cycle : CycleFacts s steps
  cycle = to_cycle s steps convex

  links : IsLinked s steps
  links = linked s steps cycle

  abbrev points : List Point
  points = map point_of cs

  abbrev outers : List Plane
  outers = map outer steps

  flat : Each (λ p. value s p ≡ pos 0) points
  flat = each_corner (λ p. value s p ≡ pos 0) (λ q. IsPoint q × (value s q ≡ pos 0)) (λ p q hp same i. on_corner s p q i.0 same i.1) cs steps starts
      (each_from_members (λ f. IsPoint f.start × (value s f.start ≡ pos 0)) steps (λ f m. ((edge s steps links f m).start_point, (edge s steps links f m).start_on)))

  behind : Each (λ e. Each (λ p. value (outer e) p ≤ℤ pos 0) points) steps
  behind = each_from_members (λ e. Each (λ p. value (outer e) p ≤ℤ pos 0) points) steps (λ e m.
      each_corner (λ p. value (outer e) p ≤ℤ pos 0) (λ q. IsPoint q × (value (outer e) q ≤ℤ pos 0)) (λ p q hp same i. behind_corner (outer e) p q hp i.0 same i.1) cs steps starts
      (each_from_members (λ f. IsPoint f.start × (value (outer e) f.start ≤ℤ pos 0)) steps (λ f n. ((edge s steps links f n).start_point, opposite_low e.side f.start (links.inside e f m n)))))

  rows : Rows (IsBounded s points) outers points (rotated points)
  rows = round_rows s points steps cs cycle behind starts

  wide_one : (e : Step) → Member e steps → HasBehind points (outer e)
  wide_one e m =
      let far = far_corner s steps links e m in
      let corner = corner_of_step cs steps starts far.step far.of_list in
      let inside = in_corner e.side corner.point far.step.start corner.is_point (edge s steps links far.step far.of_list).start_point corner.same far.holds in
      (corner.point, corner.of_list, subst (λ v. v <ℤ pos 0) (sym (value-opposite e.side corner.point)) (turned_down (value e.side corner.point) inside))

  wide : Each (HasBehind points) outers
  wide = each_mapped (HasBehind points) outer steps wide_one

  different : EachPair (λ p q. p ≢ q) points
  different = all_differ s cs steps starts cycle.edges cycle.pairs

  pub front_ring : IsRing s outers points
  front_ring = record {
    enough = enough_corners s cs steps starts cycle.round cycle.edges;
    flat = flat;
    along = rows_weaker (IsBounded s points) (λ m u v. IsEdge s m u v points) (front_edge s points) outers points (rotated points) rows;
    different = different;
    wide = wide;
  }
