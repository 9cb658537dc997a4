-- What a plane makes of a convex cycle: the cycle in front of it and its points, or that the cycle lies on one side.
use Rattle.std.proofs.Common.{◌≡◌, ◌⊎◌, inl, inr, Bool, true, false, List, [], ◌∷◌, ℤ, pos, neg_ℤ, ◌<ℤ◌, ◌≤ℤ◌, sym, subst, arith}
use Rattle.std.specs.Prelude.{◌↔◌}
use Rattle.std.proofs.lemmas.Int.{ints}
use Rattle.spec_space.specs.declared.Point.{Point}
use Rattle.spec_space.specs.declared.Plane.{Plane}
use Rattle.spec_space.specs.Points.{IsPoint, value, opposite}
use Rattle.integer_laws.proofs.Cancel.{sign_cases}
use Rattle.convex_cycles.specs.Sides.{is_in_front, IsWithin, IsTouching}
use Rattle.convex_cycles.specs.Cycles.{Step, AreConvex}
use Rattle.convex_cycles.proofs.Lists.{Each, Member, each_from_members, each_from_all, all_from_each, each_joined}
use Rattle.convex_cycles.proofs.Orders.{weaker, below, level, level_below, not_both}
use Rattle.convex_cycles.proofs.Flags.{front_tells}
use Rattle.convex_cycles.proofs.Crossings.{In, Touches, crossing, crossing-IsPoint, crossing_on, crossing_zero, crossing_positive}
use Rattle.convex_cycles.proofs.NewEdges.{along}
use Rattle.convex_cycles.proofs.Links.{sides}
use Rattle.convex_cycles.proofs.Inner.{InnerPoint, inner_near}
use Rattle.convex_cycles.proofs.Hull.{value-opposite, opposite_low, opposite_high, strict_hull, closed_hull, weak_hull_behind, closed_hull_behind}
use Rattle.convex_cycles.proofs.Rounds.{Begins, changes, some_or_none}
use Rattle.convex_cycles.proofs.Remains.{parts, parts_of, cut_steps, AreFlags}
use Rattle.convex_cycles.proofs.CutSides.{kept_sides, round_flags, cut_sides}
use Rattle.convex_cycles.proofs.CutCycles.{to_cycle, from_cycle, IsInner, linked, cut-facts}
use Rattle.convex_cycles.proofs.Partition.{cut_each, holds_along, inside_cut, touching_cut}

-- in the plane s, and strictly inside each side
abbrev pub IsStrictlyIn : Plane → List Plane → Point → Type 0
IsStrictlyIn s hs p = (value s p ≡ pos 0) × IsWithin hs p

-- in the plane s, and inside each side or on its plane
abbrev pub IsWeaklyIn : Plane → List Plane → Point → Type 0
IsWeaklyIn s hs p = (value s p ≡ pos 0) × IsTouching hs p

-- some point strictly inside lies in front of h
abbrev pub HasInner : Plane → List Plane → Plane → Type 0
HasInner s hs h = (p : Point) × IsPoint p × IsStrictlyIn s hs p × (pos 0 <ℤ value h p)

-- gs has those points of hs that lie in front of k
pub record IsFrontOf (s k : Plane) (gs hs : List Plane) : Type 0 where
  pub inside : (p : Point) → IsPoint p → IsStrictlyIn s gs p ↔ (IsStrictlyIn s hs p × (pos 0 <ℤ value k p))
  pub touching : (p : Point) → IsPoint p → IsWeaklyIn s gs p ↔ (IsWeaklyIn s hs p × (pos 0 ≤ℤ value k p))

-- a cut leaves a convex cycle of what lies in front of it
pub record IsCut (s k : Plane) (steps : List Step) : Type 0 where
  pub enters : Step
  pub leaves : Step
  pub convex : AreConvex s (cut_steps k enters steps)
  pub sides_are : sides (cut_steps k enters steps) ≡ kept_sides k (sides steps) (round_flags k steps)
  pub front : IsFrontOf s k (sides (cut_steps k enters steps)) (sides steps)
  pub new_edge : Member (along k leaves enters) (cut_steps k enters steps)

abbrev pub KeptBy : Plane → Point → Type 0
KeptBy k c = pos 0 <ℤ value k c

abbrev pub NotKeptBy : Plane → Point → Type 0
NotKeptBy k c = value k c ≤ℤ pos 0

abbrev pub BehindOf : Plane → Point → Type 0
BehindOf k c = value k c <ℤ pos 0

kept_or_not : (k : Plane) (c : Point) → NotKeptBy k c ⊎ KeptBy k c
kept_or_not k c = elim (sign_cases (value k c)) [
  | inl low ↦ inl (below (value k c) low)
  | inr (inl same) ↦ inl (level_below (value k c) same)
  | inr (inr high) ↦ inr high
]

level_or_front : (k : Plane) (c : Point) → (pos 0 ≤ℤ value k c) ⊎ BehindOf k c
level_or_front k c = elim (sign_cases (value k c)) [
  | inl low ↦ inr low
  | inr (inl same) ↦ inl (level (value k c) same)
  | inr (inr high) ↦ inl (weaker (value k c) high)
]

behind_not : (x : ℤ) → pos 0 ≤ℤ x → x <ℤ pos 0 → ⊥
behind_not x h l = omega (arith, ints)

-- some corner is in front, or none is; some is behind, or none is
pub some_front : (k : Plane) (steps : List Step) → Begins (KeptBy k) steps ⊎ ((e : Step) → Member e steps → NotKeptBy k e.start)
some_front k steps = some_or_none (NotKeptBy k) (KeptBy k) (kept_or_not k) (λ c out kept. not_both (value k c) kept out) steps

pub some_behind : (k : Plane) (steps : List Step) → Begins (BehindOf k) steps ⊎ ((e : Step) → Member e steps → pos 0 ≤ℤ value k e.start)
some_behind k steps = some_or_none (λ c. pos 0 ≤ℤ value k c) (BehindOf k) (level_or_front k) (λ c high low. behind_not (value k c) high low) steps

-- where none is in front, some is behind or all lie on the plane
pub behind_or_on : (k : Plane) (steps : List Step) → ((e : Step) → Member e steps → NotKeptBy k e.start) → Begins (BehindOf k) steps ⊎ ((e : Step) → Member e steps → value k e.start ≡ pos 0)
behind_or_on k steps none = elim (some_behind k steps) [
  | inl low ↦ inl low
  | inr high ↦ inr (λ e m. both (value k e.start) (none e m) (high e m))
]
  where
    both : (x : ℤ) → x ≤ℤ pos 0 → pos 0 ≤ℤ x → x ≡ pos 0
    both x h l = omega (arith, ints)

turned : {A B : Type 0} → A ⊎ B → B ⊎ A
turned (inl a) = inr a
turned (inr b) = inl b

-- ---- inner points
from_inner_point : (s h : Plane) (hs : List Plane) → InnerPoint s h hs → HasInner s hs h
from_inner_point s h hs m = (m.point, m.is_point, (m.on, all_from_each (λ g. pos 0 <ℤ value g m.point) hs m.within), m.front)

-- a cycle with a corner in front of k has an inner point there
pub has_inner : (s k : Plane) (steps : List Step) → AreConvex s steps → Begins (KeptBy k) steps → HasInner s (sides steps) k
has_inner s k steps convex high = from_inner_point s k (sides steps) (inner_near s k steps (linked s steps (to_cycle s steps convex)) high.0 high.1 high.2)

pub opposite_front : (k : Plane) (c : Point) → BehindOf k c → KeptBy (opposite k) c
opposite_front k c low = subst (λ x. pos 0 <ℤ x) (sym (value-opposite k c)) (up (value k c) low)
  where
    up : (x : ℤ) → x <ℤ pos 0 → pos 0 <ℤ neg_ℤ x
    up x h = omega (arith, ints)

pub opposite_back : (k : Plane) (c : Point) → KeptBy k c → BehindOf (opposite k) c
opposite_back k c high = subst (λ x. x <ℤ pos 0) (sym (value-opposite k c)) (down (value k c) high)
  where
    down : (x : ℤ) → pos 0 <ℤ x → neg_ℤ x <ℤ pos 0
    down x h = omega (arith, ints)

pub from_opposite : (k : Plane) (c : Point) → KeptBy (opposite k) c → BehindOf k c
from_opposite k c high = down (value k c) (subst (λ x. pos 0 <ℤ x) (value-opposite k c) high)
  where
    down : (x : ℤ) → pos 0 <ℤ neg_ℤ x → x <ℤ pos 0
    down x h = omega (arith, ints)

-- between an inner point behind and one in front there is one on the cut
inner_between : (s k : Plane) (steps : List Step) (p m : Point) → IsInner s steps p → IsInner s steps m → BehindOf k p → KeptBy k m → IsInner s steps (crossing k p m)
inner_between s k steps p m ip im back front = record {
  is_point = crossing-IsPoint k p m ip.is_point im.is_point (below (value k p) back) front;
  on = crossing_zero k s p m ip.on im.on;
  within = all (sides steps) ip.within im.within;
}
  where
    all : (hs : List Plane) → Each (In p) hs → Each (In m) hs → Each (In (crossing k p m)) hs
    all [] u v = tt
    all (h ∷ hs) u v = (crossing_positive k h p m (below (value k p) back) front u.0 (weaker (value h m) v.0), all hs u.1 v.1)

pub inner_on_cut : (s k : Plane) (steps : List Step) → AreConvex s steps → Begins (KeptBy k) steps → Begins (BehindOf k) steps → (q : Point) × IsInner s steps q × (value k q ≡ pos 0)
inner_on_cut s k steps convex high low =
    let links = linked s steps (to_cycle s steps convex) in
    let m = inner_near s k steps links high.0 high.1 high.2 in
    let p = inner_near s (opposite k) steps links low.0 low.1 (opposite_front k low.0.start low.2) in (
      crossing k p.point m.point,
      inner_between s k steps p.point m.point (record { is_point = p.is_point; on = p.on; within = p.within }) (record { is_point = m.is_point; on = m.on; within = m.within }) (from_opposite k p.point p.front) m.front,
      crossing_on k p.point m.point,
    )

-- ---- a cut with corners on both its sides
strictly : (p : Point) (hs : List Plane) → IsWithin hs p → Each (In p) hs
strictly p hs a = each_from_all (In p) hs a

weakly : (p : Point) (hs : List Plane) → IsTouching hs p → Each (Touches p) hs
weakly p hs a = each_from_all (Touches p) hs a

pub cut : (s k : Plane) (steps : List Step) → AreConvex s steps → Begins (KeptBy k) steps → Begins (BehindOf k) steps → IsCut s k steps
cut s k steps convex high low =
    let cycle = to_cycle s steps convex in
    let links = linked s steps cycle in
    let q = inner_on_cut s k steps convex high low in
    let under : Begins (NotKeptBy k) steps = (low.0, low.1, below (value k low.0.start) low.2) in
    let v = changes (NotKeptBy k) (KeptBy k) (kept_or_not k) (λ c out kept. not_both (value k c) kept out) steps convex.round under high in
    let u = changes (KeptBy k) (NotKeptBy k) (λ c. turned (kept_or_not k c)) (λ c kept out. not_both (value k c) kept out) steps convex.round high under in
    let m = inner_near s k steps links high.0 high.1 high.2 in
    let new = cut_steps k v.0 steps in
    record {
      enters = v.0;
      leaves = u.0;
      convex = from_cycle s new (cut-facts s steps cycle k q.0 q.1 q.2 v.0 v.1 (v.2, v.3));
      sides_are = cut_sides k v.0 steps convex.round;
      front = record {
        inside = λ p p_point. (
          (λ i. let r = inside_cut s k steps links v.0 m u.0 u.1 (u.2, u.3) p i.0 (strictly p (sides new) i.1) in ((i.0, all_from_each (In p) (sides steps) r.1), r.0)),
          (λ i. (i.0.0, all_from_each (In p) (sides new) (cut_each (In p) k v.0 steps i.1 (strictly p (sides steps) i.0.1)))),
        );
        touching = λ p p_point. (
          (λ i. let r = touching_cut s k steps links v.0 m u.0 u.1 (u.2, u.3) p p_point i.0 (weakly p (sides new) i.1) in ((i.0, all_from_each (Touches p) (sides steps) r.1), r.0)),
          (λ i. (i.0.0, all_from_each (Touches p) (sides new) (cut_each (Touches p) k v.0 steps i.1 (weakly p (sides steps) i.0.1)))),
        );
      };
      new_edge = holds_along k v.0 steps u.0 u.1 (u.2, u.3);
    }

-- the same of the other side
pub cut_behind : (s k : Plane) (steps : List Step) → AreConvex s steps → Begins (KeptBy k) steps → Begins (BehindOf k) steps → IsCut s (opposite k) steps
cut_behind s k steps convex high low = cut s (opposite k) steps convex (low.0, low.1, opposite_front k low.0.start low.2) (high.0, high.1, opposite_back k high.0.start high.2)

-- ---- a plane with corners on one side only
pub lies_in_front : (s k : Plane) (steps : List Step) → AreConvex s steps → ((e : Step) → Member e steps → pos 0 ≤ℤ value k e.start) → Begins (KeptBy k) steps → IsFrontOf s k (sides steps) (sides steps)
lies_in_front s k steps convex none high =
    let links = linked s steps (to_cycle s steps convex) in
    record {
      inside = λ p p_point. ((λ i. (i, strict_hull s steps links k none high.0 high.1 high.2 p i.0 (strictly p (sides steps) i.1))), (λ i. i.0));
      touching = λ p p_point. ((λ i. (i, closed_hull s steps links k none p p_point i.0 (weakly p (sides steps) i.1))), (λ i. i.0));
    }

-- the same of a plane with no corner in front
pub lies_behind : (s k : Plane) (steps : List Step) → AreConvex s steps → ((e : Step) → Member e steps → NotKeptBy k e.start) → Begins (BehindOf k) steps → IsFrontOf s (opposite k) (sides steps) (sides steps)
lies_behind s k steps convex none low = lies_in_front s (opposite k) steps convex (λ e m. opposite_high k e.start (none e m)) (low.0, low.1, opposite_front k low.0.start low.2)

pub has_inner_behind : (s k : Plane) (steps : List Step) → AreConvex s steps → Begins (BehindOf k) steps → HasInner s (sides steps) (opposite k)
has_inner_behind s k steps convex low = has_inner s (opposite k) steps convex (low.0, low.1, opposite_front k low.0.start low.2)

-- where no corner is in front, no inner point is, and no point at all
pub none_inside : (s k : Plane) (steps : List Step) → AreConvex s steps → ((e : Step) → Member e steps → NotKeptBy k e.start) → HasInner s (sides steps) k → ⊥
none_inside s k steps convex none i = not_both (value k i.0) i.3 (weak_hull_behind s steps (linked s steps (to_cycle s steps convex)) k none i.0 i.2.0 (strictly i.0 (sides steps) i.2.1))

pub none_touching : (s k : Plane) (steps : List Step) → AreConvex s steps → ((e : Step) → Member e steps → NotKeptBy k e.start) → (p : Point) → IsPoint p → IsWeaklyIn s (sides steps) p → NotKeptBy k p
none_touching s k steps convex none p p_point i = closed_hull_behind s steps (linked s steps (to_cycle s steps convex)) k none p p_point i.0 (weakly p (sides steps) i.1)

pub none_inside_behind : (s k : Plane) (steps : List Step) → AreConvex s steps → ((e : Step) → Member e steps → pos 0 ≤ℤ value k e.start) → HasInner s (sides steps) (opposite k) → ⊥
none_inside_behind s k steps convex none i = none_inside s (opposite k) steps convex (λ e m. opposite_low k e.start (none e m)) i

-- ---- corners
-- what holds of the old corners, and of each point between two of them, holds of the new corners
parts_starts : (P : Point → Type 0) (k : Plane) (v e : Step) (b c : Bool) → AreFlags k e b c → ((p m : Point) → P p → P m → NotKeptBy k p → KeptBy k m → P (crossing k p m)) → P e.start → P e.end → Each (λ x. P x.start) (parts k v e b c)
parts_starts P k v e true true flags between ps pe = (ps, tt)
parts_starts P k v e true false flags between ps pe = (ps, (between e.end e.start pe ps flags.1 flags.0, tt))
parts_starts P k v e false true flags between ps pe = (between e.start e.end ps pe flags.0 flags.1, tt)
parts_starts P k v e false false flags between ps pe = tt

pub cut_starts : (P : Point → Type 0) (k : Plane) (v : Step) (steps : List Step) → ((p m : Point) → P p → P m → NotKeptBy k p → KeptBy k m → P (crossing k p m))
    → ((e : Step) → Member e steps → P e.start) → ((e : Step) → Member e steps → P e.end) → Each (λ x. P x.start) (cut_steps k v steps)
cut_starts P k v steps between starts ends = each_joined (λ x. P x.start) (parts_of k v) steps (each_from_members (λ e. Each (λ x. P x.start) (parts_of k v e)) steps
    (λ e m. parts_starts P k v e (is_in_front k e.start) (is_in_front k e.end) (front_tells k e.start, front_tells k e.end) between (starts e m) (ends e m)))
