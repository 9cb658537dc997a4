-- What it means for two edges of a convex cycle to keep each other: corners lie inside sides, and of two edges no two leave
-- the front of a plane, nor enter it.
use Rattle.std.proofs.Common.{◌≡◌, ◌⊎◌, inl, inr, List, pos, ◌<ℤ◌, ◌≤ℤ◌, subst}
use Rattle.spec_space.specs.declared.Point.{Point}
use Rattle.spec_space.specs.declared.Plane.{Plane}
use Rattle.spec_space.specs.Points.{value}
use Rattle.convex_cycles.specs.Cycles.{Step, IsEdgeOf, Keeps, KeepEachOther}
use Rattle.convex_cycles.proofs.Lists.{EachPair, Member, pair_member}
use Rattle.convex_cycles.proofs.Orders.{weaker, level, not_both, not_level}
use Rattle.convex_cycles.proofs.Turns.{one_leaving, one_entering}

-- the edge leaves the front of k, or enters it
abbrev pub Leaves : Plane → Step → Type 0
Leaves k e = (pos 0 <ℤ value k e.start) × (value k e.end ≤ℤ pos 0)

abbrev pub Enters : Plane → Step → Type 0
Enters k e = (value k e.start ≤ℤ pos 0) × (pos 0 <ℤ value k e.end)

-- a corner that is kept is none that is not
pub apart : (k : Plane) (c d : Point) → pos 0 <ℤ value k c → value k d ≤ℤ pos 0 → c ≡ d → ⊥
apart k c d front back same = not_both (value k d) (subst (λ p. pos 0 <ℤ value k p) same front) back

pub keeps_start : (s : Plane) (e f : Step) → IsEdgeOf s e → Keeps e f → pos 0 ≤ℤ value e.side f.start
keeps_start s e f is keeps = elim keeps.0 [
  | inl inside ↦ weaker (value e.side f.start) inside
  | inr same ↦ level (value e.side f.start) (subst (λ c. value e.side c ≡ pos 0) same is.end_side)
]

pub keeps_end : (s : Plane) (e f : Step) → IsEdgeOf s e → Keeps e f → pos 0 ≤ℤ value e.side f.end
keeps_end s e f is keeps = elim keeps.1 [
  | inl inside ↦ weaker (value e.side f.end) inside
  | inr same ↦ level (value e.side f.end) (subst (λ c. value e.side c ≡ pos 0) same is.start_side)
]

pub turned : (e f : Step) → KeepEachOther e f → KeepEachOther f e
turned e f keeps = (keeps.1, keeps.0)

-- two edges that keep each other do not both leave
pub not_two_leaving : (s k : Plane) (e f : Step) → IsEdgeOf s e → IsEdgeOf s f → Leaves k e → Leaves k f → KeepEachOther e f → ⊥
not_two_leaving s k e f ie is_f le lf keeps =
    let on : value f.side e.end ≡ pos 0 = one_leaving s k e f ie is_f le.0 le.1 lf.0 lf.1 (keeps_start s f e is_f keeps.1) (keeps_end s f e is_f keeps.1) (keeps_start s e f ie keeps.0) (keeps_end s e f ie keeps.0) in
    elim keeps.1.1 [
      | inl inside ↦ not_level (value f.side e.end) on inside
      | inr same ↦ apart k f.start e.end lf.0 le.1 same
    ]

pub not_two_entering : (s k : Plane) (e f : Step) → IsEdgeOf s e → IsEdgeOf s f → Enters k e → Enters k f → KeepEachOther e f → ⊥
not_two_entering s k e f ie is_f ne nf keeps =
    let on : value f.side e.start ≡ pos 0 = one_entering s k e f ie is_f ne.0 ne.1 nf.0 nf.1 (keeps_start s f e is_f keeps.1) (keeps_end s f e is_f keeps.1) (keeps_start s e f ie keeps.0) (keeps_end s e f ie keeps.0) in
    elim keeps.1.0 [
      | inl inside ↦ not_level (value f.side e.start) on inside
      | inr same ↦ apart k f.end e.start nf.1 ne.0 same
    ]

-- two edges of a convex cycle are one, or keep each other
abbrev pub OneOrKept : Step → Step → Type 0
OneOrKept e f = (e ≡ f) ⊎ KeepEachOther e f

pub member_pair : (e f : Step) (steps : List Step) → EachPair KeepEachOther steps → Member e steps → Member f steps → OneOrKept e f
member_pair e f steps convex m n = pair_member KeepEachOther turned e f steps convex m n

pub touches_start : (s : Plane) (e f : Step) → IsEdgeOf s e → OneOrKept e f → pos 0 ≤ℤ value e.side f.start
touches_start s e f is (inl same) = level (value e.side f.start) (subst (λ x. value e.side x.start ≡ pos 0) same is.start_side)
touches_start s e f is (inr keeps) = keeps_start s e f is keeps.0

pub touches_end : (s : Plane) (e f : Step) → IsEdgeOf s e → OneOrKept e f → pos 0 ≤ℤ value e.side f.end
touches_end s e f is (inl same) = level (value e.side f.end) (subst (λ x. value e.side x.end ≡ pos 0) same is.end_side)
touches_end s e f is (inr keeps) = keeps_end s e f is keeps.0

-- so a cycle leaves the front once, and enters it once
pub only_leaving : (s k : Plane) (e f : Step) → IsEdgeOf s e → IsEdgeOf s f → OneOrKept e f → Leaves k e → Leaves k f → e ≡ f
only_leaving s k e f ie is_f (inl same) le lf = same
only_leaving s k e f ie is_f (inr keeps) le lf = absurd (not_two_leaving s k e f ie is_f le lf keeps)

pub only_entering : (s k : Plane) (e f : Step) → IsEdgeOf s e → IsEdgeOf s f → OneOrKept e f → Enters k e → Enters k f → e ≡ f
only_entering s k e f ie is_f (inl same) ne nf = same
only_entering s k e f ie is_f (inr keeps) ne nf = absurd (not_two_entering s k e f ie is_f ne nf keeps)
