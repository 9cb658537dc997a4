-- The corners inside an edge are those on its line that come between its ends.
use Rattle.std.proofs.Common.{◌≡◌, true, false, true≢false, List, [], ◌∷◌, filter, reverse, Contains, Result, Ok, Err, IfOk, pos, ◌<ℤ◌, sym, ap, ◌∙◌, subst}
use Rattle.std.specs.Prelude.{◌↔◌, Vec}
use Rattle.std.specs.declared.alloc.AllocError.{AllocError}
use Rattle.std.specs.declared.alloc.Global.{Global}
use Rattle.std.proofs.lemmas.Bool.Decides.{Decides-int_eq}
use Rattle.std.proofs.lemmas.List.Kept.{AllPairs-filter}
use Rattle.std.proofs.lemmas.List.Sorted.{Contains-permutation, IsPermutation-sym, IsPermutation-reverse}
use Rattle.spec_space.specs.declared.Plane.{Plane}
use Rattle.spec_space.specs.Points.{value, dot}
use Rattle.plane_core.specs.declared.numbers.Plane.{Plane as BookPlane}
use Rattle.plane_core.specs.declared.numbers.Corner.{Corner}
use Rattle.plane_core.specs.declared.book.PlaneId.{PlaneId}
use Rattle.plane_core.specs.Views.{point_of}
use Rattle.convex_cycles.specs.Cycles.{Step, IsEdgeOf}
use Rattle.convex_cycles.specs.Sides.{is_in_front}
use Rattle.convex_cycles.proofs.Flags.{front_flag}
use Rattle.convex_cycles.proofs.Lists.{pair_from_all, all_from_pair}
use Rattle.line_turns.proofs.Along.{own_way, after_start, start_before, before_end, end_after}
use Rattle.line_turns.proofs.CutLists.{falling_after, after_falling, pair_reverse}
use Rattle.line_turns.proofs.Rising.{rising_after, after_rising}
use Rattle.line_turns.proofs.Runs.{way_of}
use Rattle.poly_frag.specs.Frags.{plane_at, side_of}
use Rattle.poly_frag.proofs.CornerSigns.{contains_member, member_contains}
use Rattle.edge_cut.specs.declared.lines.LineId.{LineId}
use Rattle.edge_cut.specs.declared.sides.Side.{Side}
use Rattle.edge_cut.specs.Sides.{step_of}
use Rattle.edge_cut.specs.Stretches.{comes_before, is_among, lies_on, is_on_line, is_between, is_inside, IsStretch}
use Rattle.edge_cut.specs.Lines.{IsLineOf}
use Rattle.edge_cut.proofs.Cutting.{both, and_true, in_front, on_kept_side, goes_up}
use Rattle.edge_cut.proofs.Orders.{before_from, from_before}
use Rattle.edge_cut.proofs.Sorted.{member_filter, filter_member}

module _ (planes : List BookPlane) (support : PlaneId) (s : Side) (is : IsEdgeOf (plane_at planes support) (step_of planes s)) where
  abbrev h : Plane
  h = plane_at planes support

  abbrev e : Step
  e = step_of planes s

  own : pos 0 <ℤ dot (way_of e) (way_of e)
  own = own_way h e is

  abbrev OnEdge : Corner → Type 0
  OnEdge c = (value h (point_of c) ≡ pos 0) × (value (side_of planes s.edge) (point_of c) ≡ pos 0)

  on_line : (c : Corner) → is_on_line planes support s c ≡ true → OnEdge c
  on_line c t =
      let on = both (lies_on h c) (lies_on (plane_at planes s.edge.plane) c) t in
      ((Decides-int_eq (value h (point_of c)) (pos 0)).0 on.0, on_kept_side s.edge.keep_front (plane_at planes s.edge.plane) (point_of c) ((Decides-int_eq (value (plane_at planes s.edge.plane) (point_of c)) (pos 0)).0 on.1))

  abbrev IsBetween : Corner → Type 0
  IsBetween c = (pos 0 <ℤ value (side_of planes s.before) (point_of c)) × (pos 0 <ℤ value (side_of planes s.after) (point_of c))

  from_between : (c : Corner) → is_between planes s c ≡ true → IsBetween c
  from_between c t =
      let parts = both (is_in_front (side_of planes s.before) (point_of c)) (is_in_front (side_of planes s.after) (point_of c)) t in
      (in_front (side_of planes s.before) (point_of c) parts.0, in_front (side_of planes s.after) (point_of c) parts.1)

  to_between : (c : Corner) → IsBetween c → is_between planes s c ≡ true
  to_between c b = and_true (is_in_front (side_of planes s.before) (point_of c)) (is_in_front (side_of planes s.after) (point_of c))
      (front_flag (side_of planes s.before) (point_of c) true b.0) (front_flag (side_of planes s.after) (point_of c) true b.1)

  -- an edge whose start comes first
  rising_among : comes_before s.end s.start ≡ false → (c : Corner) → OnEdge c → (is_among s.start s.end c ≡ true) ↔ (is_between planes s c ≡ true)
  rising_among flag c on =
      let up = goes_up planes (c ∷ []) support s is flag in (
        λ t.
            let parts = both (comes_before s.start c) (comes_before c s.end) t in
            to_between c (
              start_before h e is (way_of e) own (point_of c) on.0 on.1 (rising_after h e is (point_of s.start) (point_of c) is.start_on on.0 is.start_side on.1 up (before_from s.start c parts.0)),
              end_after h e is (way_of e) own (point_of c) on.0 on.1 (rising_after h e is (point_of c) (point_of s.end) on.0 is.end_on on.1 is.end_side up (before_from c s.end parts.1)),
            ),
        λ t.
            let b = from_between c t in
            and_true (comes_before s.start c) (comes_before c s.end)
            (from_before s.start c (after_rising h e is (point_of s.start) (point_of c) is.start_on on.0 is.start_side on.1 up (after_start h e is (way_of e) own (point_of c) on.0 on.1 b.0)))
            (from_before c s.end (after_rising h e is (point_of c) (point_of s.end) on.0 is.end_on on.1 is.end_side up (before_end h e is (way_of e) own (point_of c) on.0 on.1 b.1))),
      )

  -- an edge whose end comes first
  falling_among : comes_before s.end s.start ≡ true → (c : Corner) → OnEdge c → (is_among s.end s.start c ≡ true) ↔ (is_between planes s c ≡ true)
  falling_among flag c on =
      let down = before_from s.end s.start flag in (
        λ t.
            let parts = both (comes_before s.end c) (comes_before c s.start) t in
            to_between c (
              start_before h e is (way_of e) own (point_of c) on.0 on.1 (falling_after h e is (point_of s.start) (point_of c) is.start_on on.0 is.start_side on.1 down (before_from c s.start parts.1)),
              end_after h e is (way_of e) own (point_of c) on.0 on.1 (falling_after h e is (point_of c) (point_of s.end) on.0 is.end_on on.1 is.end_side down (before_from s.end c parts.0)),
            ),
        λ t.
            let b = from_between c t in
            and_true (comes_before s.end c) (comes_before c s.start)
            (from_before s.end c (after_falling h e is (point_of c) (point_of s.end) on.0 is.end_on on.1 is.end_side down (before_end h e is (way_of e) own (point_of c) on.0 on.1 b.1)))
            (from_before c s.start (after_falling h e is (point_of s.start) (point_of c) is.start_on on.0 is.start_side on.1 down (after_start h e is (way_of e) own (point_of c) on.0 on.1 b.0))),
      )

  -- ---- the corners of a line
  abbrev id : LineId
  id = record { first = support; second = s.edge.plane }

  module _ (cs line : List Corner) (is_line : IsLineOf planes cs id line) where
    there : (low high : Corner) → ((c : Corner) → OnEdge c → (is_among low high c ≡ true) ↔ (is_between planes s c ≡ true))
        → (c : Corner) → Contains (filter (is_among low high) line) c ↔ (Contains cs c × (is_inside planes support s c ≡ true))
    there low high same c = (
      λ m.
          let r = member_filter (is_among low high) c line (contains_member c (filter (is_among low high) line) m) in
          let at = (is_line.all c).0 (member_contains c line r.0) in
          (at.0, and_true (is_on_line planes support s c) (is_between planes s c) at.1 ((same c (on_line c at.1)).0 r.1)),
      λ t.
          let parts = both (is_on_line planes support s c) (is_between planes s c) t.1 in
          member_contains c (filter (is_among low high) line) (filter_member (is_among low high) c line (contains_member c line ((is_line.all c).1 (t.0, parts.0))) ((same c (on_line c parts.0)).1 parts.1)),
    )

    rising-IsStretch : comes_before s.end s.start ≡ false → (inside : List Corner) → inside ≡ filter (is_among s.start s.end) line → IsStretch planes cs support s inside
    rising-IsStretch flag inside are = subst (IsStretch planes cs support s) (sym are) (record {
      all = there s.start s.end (rising_among flag);
      rising = λ _. AllPairs-filter (λ c d. comes_before c d ≡ true) (is_among s.start s.end) line is_line.rising;
      falling = λ t. absurd (true≢false (sym t ∙ flag));
    })

    pub falling-IsStretch : comes_before s.end s.start ≡ true → (found inside : List Corner) → found ≡ filter (is_among s.end s.start) line → inside ≡ reverse found → IsStretch planes cs support s inside
    falling-IsStretch flag found inside are turned =
        let among = filter (is_among s.end s.start) line in
        subst (IsStretch planes cs support s) (sym (turned ∙ ap reverse are)) (record {
          all = λ c. (
            λ m. (there s.end s.start (falling_among flag) c).0 (Contains-permutation (reverse among) among c (IsPermutation-sym among (reverse among) (IsPermutation-reverse among)) m),
            λ t. Contains-permutation among (reverse among) c (IsPermutation-reverse among) ((there s.end s.start (falling_among flag) c).1 t),
          );
          rising = λ t. absurd (true≢false (sym flag ∙ t));
          falling = λ _. all_from_pair (λ c d. comes_before d c ≡ true) (reverse among) (pair_reverse (λ c d. comes_before c d ≡ true) among
              (pair_from_all (λ c d. comes_before c d ≡ true) among (AllPairs-filter (λ c d. comes_before c d ≡ true) (is_among s.end s.start) line is_line.rising)));
        })

    pub rising_result : comes_before s.end s.start ≡ false → (r : Result (Vec Corner Global) AllocError) → IfOk r (λ v. v.items ≡ filter (is_among s.start s.end) line) → IfOk r (λ v. IsStretch planes cs support s v.items)
    rising_result flag (Ok v) are = rising-IsStretch flag v.items are
    rising_result flag (Err want) are = tt
