-- A stretch of corners in the order of their coordinates is one in the order of the edge.
use Rattle.std.proofs.Common.{◌≡◌, inl, inr, Bool, true, false, true≢false, ◌&&◌, List, map, All, Contains, ℤ, pos, neg_ℤ, ◌<ℤ◌, refl, sym, ap, ◌∙◌, subst, arith}
use Rattle.std.specs.Prelude.{◌↔◌}
use Rattle.std.proofs.lemmas.Bool.Decides.{Decides-int_eq}
use Rattle.std.proofs.lemmas.Int.{ints}
use Rattle.spec_space.specs.declared.Point.{Point}
use Rattle.spec_space.specs.declared.Plane.{Plane}
use Rattle.spec_space.specs.Points.{value, way_between}
use Rattle.spec_space.specs.Sums.{IsSamePoint}
use Rattle.plane_core.specs.declared.numbers.Plane.{Plane as BookPlane}
use Rattle.plane_core.specs.declared.numbers.Corner.{Corner}
use Rattle.plane_core.specs.declared.book.PlaneId.{PlaneId}
use Rattle.plane_core.specs.Views.{point_of}
use Rattle.convex_cycles.specs.Cycles.{IsEdgeOf}
use Rattle.convex_cycles.specs.Sides.{is_in_front}
use Rattle.convex_cycles.proofs.Flags.{Tells, front_tells, front_flag}
use Rattle.convex_cycles.proofs.Hull.{value-opposite}
use Rattle.convex_cycles.proofs.Lists.{Each, EachPair, each_from_all, all_from_each, each_from_map, each_both, each_weaker, each_from_members, pair_from_all, all_from_pair, pair_with}
use Rattle.line_turns.proofs.Along.{dot_swapped}
use Rattle.line_turns.proofs.Rising.{IsBefore, rising_after}
use Rattle.line_turns.proofs.CutLists.{falling_after}
use Rattle.poly_frag.specs.Frags.{plane_at, kept_side, side_of, support_of}
use Rattle.poly_frag.specs.Cycles.{IsCycle}
use Rattle.poly_frag.specs.declared.frag.Frag.{Frag}
use Rattle.poly_frag.proofs.CornerSigns.{member_contains}
use Rattle.edge_cut.specs.declared.sides.Side.{Side}
use Rattle.edge_cut.specs.Sides.{AreSides, step_of}
use Rattle.edge_cut.specs.Cuts.{IsInsideEdge, CutSide, ComesAfter, IsCutAt}
use Rattle.edge_cut.specs.Stretches.{comes_before, lies_on, is_on_line, is_between, is_inside, IsStretch}
use Rattle.edge_cut.proofs.Orders.{before_cases, before_from, from_before}
use Rattle.edge_cut.proofs.Steps.{steps_of, steps-AreConvex, on_spelling}

-- ---- tests
pub both : (a b : Bool) → (a && b) ≡ true → (a ≡ true) × (b ≡ true)
both true b e = (refl, e)
both false b e = absurd (true≢false (sym e))

pub and_true : (a b : Bool) → a ≡ true → b ≡ true → (a && b) ≡ true
and_true a b e f = ap (λ x. x && b) e ∙ f

pub in_front : (h : Plane) (p : Point) → is_in_front h p ≡ true → pos 0 <ℤ value h p
in_front h p e = subst (λ b. Tells b (value h p)) e (front_tells h p)

pub on_kept_side : (keep : Bool) (h : Plane) (p : Point) → value h p ≡ pos 0 → value (kept_side keep h) p ≡ pos 0
on_kept_side true h p on = on
on_kept_side false h p on = value-opposite h p ∙ ap neg_ℤ on

inside_from : (planes : List BookPlane) (support : PlaneId) (s : Side) (c : Corner) → is_inside planes support s c ≡ true → IsInsideEdge planes support s c
inside_from planes support s c e =
    let parts = both (is_on_line planes support s c) (is_between planes s c) e in
    let on = both (lies_on (plane_at planes support) c) (lies_on (plane_at planes s.edge.plane) c) parts.0 in
    let between = both (is_in_front (side_of planes s.before) (point_of c)) (is_in_front (side_of planes s.after) (point_of c)) parts.1 in
    record {
      on_support = (Decides-int_eq (value (plane_at planes support) (point_of c)) (pos 0)).0 on.0;
      on_edge = (Decides-int_eq (value (plane_at planes s.edge.plane) (point_of c)) (pos 0)).0 on.1;
      after_start = in_front (side_of planes s.before) (point_of c) between.0;
      before_end = in_front (side_of planes s.after) (point_of c) between.1;
    }

from_inside : (planes : List BookPlane) (support : PlaneId) (s : Side) (c : Corner) → IsInsideEdge planes support s c → is_inside planes support s c ≡ true
from_inside planes support s c i =
    and_true (is_on_line planes support s c) (is_between planes s c)
    (and_true (lies_on (plane_at planes support) c) (lies_on (plane_at planes s.edge.plane) c) ((Decides-int_eq (value (plane_at planes support) (point_of c)) (pos 0)).1 i.on_support) ((Decides-int_eq (value (plane_at planes s.edge.plane) (point_of c)) (pos 0)).1 i.on_edge))
    (and_true (is_in_front (side_of planes s.before) (point_of c)) (is_in_front (side_of planes s.after) (point_of c)) (front_flag (side_of planes s.before) (point_of c) true i.after_start) (front_flag (side_of planes s.after) (point_of c) true i.before_end))

-- ---- one edge
module _ (planes : List BookPlane) (cutting : List Corner) (support : PlaneId) (s : Side) (is : IsEdgeOf (plane_at planes support) (step_of planes s)) where
  abbrev h : Plane
  h = plane_at planes support

  ends_apart : IsSamePoint (point_of s.start) (point_of s.end) → ⊥
  ends_apart same = clash (value (side_of planes s.before) (point_of s.end)) is.inside_prev
      (on_spelling (side_of planes s.before) (point_of s.end) (point_of s.start) s.start.positive (record { same_x = sym same.same_x; same_y = sym same.same_y; same_z = sym same.same_z }) is.start_prev)
    where
      clash : (x : ℤ) → pos 0 <ℤ x → x ≡ pos 0 → ⊥
      clash x u e = omega (arith, ints)

  pub goes_up : comes_before s.end s.start ≡ false → IsBefore (point_of s.start) (point_of s.end)
  goes_up flag = elim (before_cases (point_of s.start) (point_of s.end)) [
    | inl up ↦ up
    | inr (inl same) ↦ absurd (ends_apart same)
    | inr (inr down) ↦ absurd (true≢false (sym (from_before s.end s.start down) ∙ flag))
  ]

  abbrev OnEdge : Corner → Type 0
  OnEdge c = (value h (point_of c) ≡ pos 0) × (value (side_of planes s.edge) (point_of c) ≡ pos 0)

  module _ (inside : List Corner) (stretch : IsStretch planes cutting support s inside) where
    on_edge : Each OnEdge inside
    on_edge = each_from_members OnEdge inside (λ c m.
        let i = inside_from planes support s c ((stretch.all c).0 (member_contains c inside m)).1 in
        (i.on_support, on_kept_side s.edge.keep_front (plane_at planes s.edge.plane) (point_of c) i.on_edge))

    by_flag : (flag : Bool) → comes_before s.end s.start ≡ flag → EachPair (ComesAfter s) inside
    by_flag false e = pair_with OnEdge (λ c d. comes_before c d ≡ true) (ComesAfter s)
        (λ c d oc od up. subst (λ x. pos 0 <ℤ x) (dot_swapped (way_between (point_of c) (point_of d)) (way_between (point_of s.start) (point_of s.end))) (rising_after h (step_of planes s) is (point_of c) (point_of d) oc.0 od.0 oc.1 od.1 (goes_up e) (before_from c d up)))
        inside on_edge (pair_from_all (λ c d. comes_before c d ≡ true) inside (stretch.rising e))
    by_flag true e = pair_with OnEdge (λ c d. comes_before d c ≡ true) (ComesAfter s)
        (λ c d oc od down. subst (λ x. pos 0 <ℤ x) (dot_swapped (way_between (point_of c) (point_of d)) (way_between (point_of s.start) (point_of s.end))) (falling_after h (step_of planes s) is (point_of c) (point_of d) oc.0 od.0 oc.1 od.1 (before_from s.end s.start e) (before_from d c down)))
        inside on_edge (pair_from_all (λ c d. comes_before d c ≡ true) inside (stretch.falling e))

    pub stretch-IsCutAt : (corners : List Corner) → ((c : Corner) → Contains corners c ↔ Contains cutting c) → IsCutAt planes corners support (record { side = s; inside = inside })
    stretch-IsCutAt corners same = record {
      all = λ c. (
        λ m. let r = (stretch.all c).0 m in ((same c).1 r.0, inside_from planes support s c r.1),
        λ r. (stretch.all c).1 ((same c).0 r.0, from_inside planes support s c r.1),
      );
      in_order = all_from_pair (ComesAfter s) inside (by_flag (comes_before s.end s.start) refl);
    }

-- ---- all edges of a piece
pub cuts-AreCut : (planes : List BookPlane) (f : Frag) (cuts : List CutSide) (cutting corners : List Corner) → IsCycle planes f → AreSides planes f (map (λ c. c.side) cuts)
    → ((c : Corner) → Contains corners c ↔ Contains cutting c) → All (λ c. IsStretch planes cutting f.support c.side c.inside) cuts → All (IsCutAt planes corners f.support) cuts
cuts-AreCut planes f cuts cutting corners cycle are same stretches =
    all_from_each (IsCutAt planes corners f.support) cuts
    (each_weaker (λ c. IsEdgeOf (support_of planes f) (step_of planes c.side) × IsStretch planes cutting f.support c.side c.inside) (IsCutAt planes corners f.support)
    (λ c r. stretch-IsCutAt planes cutting f.support c.side r.0 c.inside r.1 corners same) cuts
    (each_both (λ c. IsEdgeOf (support_of planes f) (step_of planes c.side)) (λ c. IsStretch planes cutting f.support c.side c.inside) cuts
    (each_from_map (λ s. IsEdgeOf (support_of planes f) (step_of planes s)) (λ c. c.side) cuts (each_from_map (IsEdgeOf (support_of planes f)) (step_of planes) (map (λ c. c.side) cuts) (each_from_all (IsEdgeOf (support_of planes f)) (steps_of planes (map (λ c. c.side) cuts)) (steps-AreConvex planes f (map (λ c. c.side) cuts) cycle are).edges)))
    (each_from_all (λ c. IsStretch planes cutting f.support c.side c.inside) cuts stretches)))
