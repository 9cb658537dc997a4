-- Where the values on the two sides of a fragment differ, all of it is in range, and no wall of the cube is one of its edges.
use Rattle.std.proofs.Common.{◌≡◌, ◌≢◌, ◌⊎◌, inl, inr, ◌<◌, ◌≤◌, ◌+◌, length, Bool, true, false, List, ◌∷◌, slice_get, Some, ℤ, pos, negsuc, neg_ℤ, ◌*ℤ◌, ◌<ℤ◌, ◌≤ℤ◌, unsigned_abs, All, refl, sym, subst, ◌∙◌, arith, true≢false}
use Rattle.std.specs.Prelude.{nat_eq}
use Rattle.std.proofs.lemmas.Int.{ints, by_lt_z}
use Rattle.std.proofs.lemmas.Bool.{eqb-true, eq-eqb, cases_lt}
use Rattle.spec_space.specs.declared.Point.{Point}
use Rattle.spec_space.specs.declared.Plane.{Plane}
use Rattle.spec_space.specs.Points.{IsPoint, value, opposite}
use Rattle.plane_core.specs.declared.numbers.Plane.{Plane as BookPlane}
use Rattle.plane_core.specs.declared.book.PlaneId.{PlaneId}
use Rattle.integer_laws.proofs.Cancel.{sign_cases}
use Rattle.convex_cycles.proofs.Lists.{Member, each_from_all, all_from_each, each_member, each_from_members, member_map}
use Rattle.convex_cycles.proofs.Crossings.{In, Touches, mean_zero}
use Rattle.convex_cycles.proofs.Hull.{value-opposite}
use Rattle.convex_cycles.proofs.CutCycles.{to_cycle, edge_of}
use Rattle.poly_frag.specs.Cubes.{IsInsideCube}
use Rattle.poly_frag.specs.Frags.{plane_at, kept_side, side_of, sides_of, support_of, IsInside, IsIn, HasPart}
use Rattle.poly_frag.specs.Cycles.{IsFragment}
use Rattle.poly_frag.specs.declared.frag.Edge.{Edge}
use Rattle.poly_frag.specs.declared.frag.Frag.{Frag}
use Rattle.poly_frag.proofs.Across.{wall_numbered}
use Rattle.poly_frag.proofs.CornerSigns.{step_of}
use Rattle.poly_frag.proofs.InsideCube.{on_no_wall}
use Rattle.poly_frag.proofs.Laws.{inner}
use Rattle.poly_frag.proofs.Wholes.{corner_in}
use Rattle.plane_cells.proofs.Near.{beside, beside-IsPoint, beside_within, beside_front}
use Rattle.tree_pool.specs.Trees.{Tree, value_of, IsPlaneOf, IsOff}
use Rattle.face_walk.specs.Faces.{IsInRange, IsAloneOn}
use Rattle.face_walk.specs.Works.{IsFit, neighbour}
use Rattle.face_walk.proofs.Neighbours.{Side, side_kept, side_own, neighbour_is_point, neighbour_inside, neighbour_in_range}
use Rattle.face_walk.proofs.SideTrees.{level_is}
use Rattle.face_walk.proofs.Generic.{clear}

-- ---- the neighbours of a point alone on a plane are on no plane of the tree
pub side_some : (side : Bool) (v : ℤ) → Side side v → v ≢ pos 0
side_some true v h e = omega (arith, ints)
side_some false v h e = omega (arith, ints)

pub some_side : (v : ℤ) → v ≢ pos 0 → (side : Bool) × Side side v
some_side v off = elim (sign_cases v) [
  | inl low ↦ (false, low)
  | inr (inl e) ↦ absurd (off e)
  | inr (inr high) ↦ (true, high)
]

pub neighbour_off : (planes : List BookPlane) (t : Tree) → IsFit planes t → (side : Bool) (h : PlaneId) → h.k < length planes → (p : Point) → IsAloneOn planes t h p → IsOff planes t (neighbour side (plane_at planes h) p)
neighbour_off planes t fit side h given p alone k is e =
    by (neighbour side (plane_at planes h) p) (nat_eq k h.k) refl (sym (level_is (slice_get planes k) (neighbour side (plane_at planes h) p)) ∙ e)
    (side_own planes side h p given alone.on) (λ s. side_kept planes s side (record { k = k }) h p (fit.of_book k is) given)
  where
    by : (q : Point) (same : Bool) → nat_eq k h.k ≡ same → value (plane_at planes (record { k = k })) q ≡ pos 0 → Side side (value (plane_at planes h) q)
        → ((s : Bool) → Side s (value (plane_at planes (record { k = k })) p) → Side s (value (plane_at planes (record { k = k })) q)) → ⊥
    by q true s on own kept = side_some side (value (plane_at planes h) q) own (subst (λ n. value (plane_at planes (record { k = n })) q ≡ pos 0) (eqb-true k h.k s) on)
    by q false s on own kept =
        let o = some_side (value (plane_at planes (record { k = k })) p) (alone.off (record { k = k }) is (λ same. true≢false (sym (eq-eqb k h.k same) ∙ s))) in
        side_some o.0 (value (plane_at planes (record { k = k })) q) (kept o.0 o.1) on

-- ---- beyond the range
abbrev x_high : Plane
x_high = record { a = pos 1; b = pos 0; c = pos 0; d = pos 1048576 }

abbrev x_low : Plane
x_low = record { a = negsuc 0; b = pos 0; c = pos 0; d = pos 1048576 }

abbrev y_high : Plane
y_high = record { a = pos 0; b = pos 1; c = pos 0; d = pos 1048576 }

abbrev y_low : Plane
y_low = record { a = pos 0; b = negsuc 0; c = pos 0; d = pos 1048576 }

abbrev z_high : Plane
z_high = record { a = pos 0; b = pos 0; c = pos 1; d = pos 1048576 }

abbrev z_low : Plane
z_low = record { a = pos 0; b = pos 0; c = negsuc 0; d = pos 1048576 }

abbrev IsBeyond : Plane → Type 0
IsBeyond g = (q : Point) → pos 0 <ℤ value g q → IsInRange q → ⊥

beyond_x_high : IsBeyond x_high
beyond_x_high q h i = let l = i.x_high in omega (arith, ints)

beyond_x_low : IsBeyond x_low
beyond_x_low q h i = let l = i.x_low in omega (arith, ints)

beyond_y_high : IsBeyond y_high
beyond_y_high q h i = let l = i.y_high in omega (arith, ints)

beyond_y_low : IsBeyond y_low
beyond_y_low q h i = let l = i.y_low in omega (arith, ints)

beyond_z_high : IsBeyond z_high
beyond_z_high q h i = let l = i.z_high in omega (arith, ints)

beyond_z_low : IsBeyond z_low
beyond_z_low q h i = let l = i.z_low in omega (arith, ints)

from_x_high : (q : Point) → value x_high q ≤ℤ pos 0 → q.x ≤ℤ (pos 1048576 *ℤ q.w)
from_x_high q h = omega (arith, ints)

from_x_low : (q : Point) → value x_low q ≤ℤ pos 0 → (negsuc 1048575 *ℤ q.w) ≤ℤ q.x
from_x_low q h = omega (arith, ints)

from_y_high : (q : Point) → value y_high q ≤ℤ pos 0 → q.y ≤ℤ (pos 1048576 *ℤ q.w)
from_y_high q h = omega (arith, ints)

from_y_low : (q : Point) → value y_low q ≤ℤ pos 0 → (negsuc 1048575 *ℤ q.w) ≤ℤ q.y
from_y_low q h = omega (arith, ints)

from_z_high : (q : Point) → value z_high q ≤ℤ pos 0 → q.z ≤ℤ (pos 1048576 *ℤ q.w)
from_z_high q h = omega (arith, ints)

from_z_low : (q : Point) → value z_low q ≤ℤ pos 0 → (negsuc 1048575 *ℤ q.w) ≤ℤ q.z
from_z_low q h = omega (arith, ints)

in_range_by : (q : Point) → ((g : Plane) → IsBeyond g → value g q ≤ℤ pos 0) → IsInRange q
in_range_by q none = record {
  x_low = from_x_low q (none x_low beyond_x_low);
  x_high = from_x_high q (none x_high beyond_x_high);
  y_low = from_y_low q (none y_low beyond_y_low);
  y_high = from_y_high q (none y_high beyond_y_high);
  z_low = from_z_low q (none z_low beyond_z_low);
  z_high = from_z_high q (none z_high beyond_z_high);
}

low_wall : (w x : ℤ) → pos 0 <ℤ w → (negsuc 1048575 *ℤ w) ≤ℤ x → (negsuc 1048576 *ℤ w) <ℤ x
low_wall w x h l = omega (arith, ints)

high_wall : (w x : ℤ) → pos 0 <ℤ w → x ≤ℤ (pos 1048576 *ℤ w) → x <ℤ (pos 1048577 *ℤ w)
high_wall w x h l = omega (arith, ints)

inside_from_range : (q : Point) → IsPoint q → IsInRange q → IsInsideCube q
inside_from_range q is i = record {
  x_low = low_wall q.w q.x is i.x_low;
  x_high = high_wall q.w q.x is i.x_high;
  y_low = low_wall q.w q.y is i.y_low;
  y_high = high_wall q.w q.y is i.y_high;
  z_low = low_wall q.w q.z is i.z_low;
  z_high = high_wall q.w q.z is i.z_high;
}

kept_zero : (keep : Bool) (h : Plane) (p : Point) → value (kept_side keep h) p ≡ pos 0 → value h p ≡ pos 0
kept_zero true h p e = e
kept_zero false h p e = back (value h p) (value (opposite h) p) (value-opposite h p) e
  where
    back : (x y : ℤ) → y ≡ neg_ℤ x → y ≡ pos 0 → x ≡ pos 0
    back x y e f = omega (arith, ints)

some_is : (a b : Bool) → Some a ≡ Some b → a ≡ b
some_is a b e = cc

-- ---- a fragment with a on the front side and b on the back side, of which not both are false
module _ (planes : List BookPlane) (t : Tree) (fit : IsFit planes t) (f : Frag) (fragment : IsFragment planes f) (in_cube : (p : Point) → IsPoint p → IsInside planes f p → IsInsideCube p)
    (a b : Bool) (differ : a ≡ b → ⊥)
    (front : (p : Point) → IsAloneOn planes t f.support p → IsInside planes f p → value_of planes t (neighbour true (support_of planes f) p) ≡ Some a)
    (back : (p : Point) → IsAloneOn planes t f.support p → IsInside planes f p → value_of planes t (neighbour false (support_of planes f) p) ≡ Some b) where
  given : f.support.k < length planes
  given = fragment.cycle.support_given

  false_beyond : (side : Bool) (p : Point) → IsAloneOn planes t f.support p → (IsInRange p → ⊥) → value_of planes t (neighbour side (support_of planes f) p) ≡ Some false
  false_beyond side p alone out =
      fit.tight (neighbour side (support_of planes f) p) (neighbour_is_point side (support_of planes f) p alone.is_point) (neighbour_inside planes side f.support p given alone.in_cube)
      (neighbour_off planes t fit side f.support given p alone) (λ i. out (neighbour_in_range planes side f.support p given i))

  -- no part of it lies beyond the range
  none_beyond : (g : Plane) → IsBeyond g → HasPart planes f g → ⊥
  none_beyond g beyond part =
      let c = clear planes fit.distinct f.support given t fit.of_book (g ∷ sides_of planes f) part.0 part.1 part.2.0 (part.3, each_from_all (In part.0) (sides_of planes f) part.2.1) in
      let here = c.old c.point c.within in
      let inside : IsInside planes f c.point = (c.on, all_from_each (In c.point) (sides_of planes f) here.1) in
      let alone : IsAloneOn planes t f.support c.point = record {
        is_point = c.is_point;
        in_cube = in_cube c.point c.is_point inside;
        on = c.on;
        off = λ k is other. c.off c.point c.within k is other;
      } in
      let out = beyond c.point here.0 in
      differ (some_is a b (sym (front c.point alone inside) ∙ false_beyond true c.point alone out ∙ sym (false_beyond false c.point alone out) ∙ back c.point alone inside))

  not_beyond : (g : Plane) → IsBeyond g → (p : Point) → IsPoint p → IsIn planes f p → value g p ≤ℤ pos 0
  not_beyond g beyond p is i = by_lt_z (pos 0) (value g p)
      (λ high.
      let m = inner planes f fragment in
      let q = beside g p m.0 in
      absurd (none_beyond g beyond (
        q,
        beside-IsPoint g p m.0 is m.1,
        (
          mean_zero (pos (unsigned_abs (value g m.0) + 1)) (pos 1) p m.0 (support_of planes f) i.0 m.2.0,
          all_from_each (In q) (sides_of planes f) (beside_within g p m.0 (sides_of planes f) (each_from_all (Touches p) (sides_of planes f) i.1) (each_from_all (In m.0) (sides_of planes f) m.2.1)),
        ),
        beside_front g p m.0 high,
      )))
      (λ low. low)

  pub in_range : (p : Point) → IsPoint p → IsIn planes f p → IsInRange p
  in_range p is i = in_range_by p (λ g beyond. not_beyond g beyond p is i)

  no_wall_edge : (e : Edge) → Member e f.edges.items → e.plane.k < 6 → ⊥
  no_wall_edge e m low =
      let steps = fragment.cycle.steps in
      let own = step_of (side_of planes e) steps (subst (Member (side_of planes e)) fragment.cycle.sides (member_map (side_of planes) e f.edges.items m)) in
      let s = own.0 in
      let corner = corner_in planes f fragment.cycle s own.1 in
      let edge = edge_of (support_of planes f) steps (to_cycle (support_of planes f) steps fragment.cycle.convex) s own.1 in
      let on = kept_zero e.keep_front (plane_at planes e.plane) s.start (subst (λ k. value k s.start ≡ pos 0) (sym own.2) edge.start_side) in
      on_no_wall e.plane.k low s.start (inside_from_range s.start corner.0 (in_range s.start corner.0 corner.1)) (subst (λ k. value k s.start ≡ pos 0) (wall_numbered planes e.plane.k fit.walls low) on)

  pub inner_edges : All (λ e. IsPlaneOf e.plane.k t ⊎ (e.plane.k < 6)) f.edges.items → All (λ e. IsPlaneOf e.plane.k t × (6 ≤ e.plane.k)) f.edges.items
  inner_edges all =
      let Old : Edge → Type 0 = λ e. IsPlaneOf e.plane.k t ⊎ (e.plane.k < 6) in
      let New : Edge → Type 0 = λ e. IsPlaneOf e.plane.k t × (6 ≤ e.plane.k) in
      all_from_each New f.edges.items (each_from_members New f.edges.items (λ e m. (
        elim (each_member Old e f.edges.items m (each_from_all Old f.edges.items all)) [ inl is ↦ is | inr low ↦ absurd (no_wall_edge e m low) ],
        elim (cases_lt e.plane.k 6) [ inl low ↦ absurd (no_wall_edge e m low) | inr high ↦ high ],
      )))
