-- The steps of a convex cycle by membership: what the geometry of a whole cycle needs of a list of steps.
use Rattle.std.proofs.Common.{◌≢◌, inl, inr, List, [], ◌∷◌, map, ℤ, pos, ◌<ℤ◌, ◌≤ℤ◌, refl, sym, subst, arith}
use Rattle.std.proofs.lemmas.Int.{ints}
use Rattle.spec_space.specs.declared.Point.{Point}
use Rattle.spec_space.specs.declared.Plane.{Plane}
use Rattle.spec_space.specs.Points.{value}
use Rattle.convex_cycles.specs.Cycles.{Step, IsEdgeOf, Follows, turn}
use Rattle.convex_cycles.proofs.Lists.{Each, Member, each_member, member_map}
use Rattle.convex_cycles.proofs.Crossings.{In}
use Rattle.convex_cycles.proofs.Fronts.{HasCorner}

-- a step of the list of which the fact holds
pub record HasStep (P : Step → Type 0) (steps : List Step) : Type 0 where
  pub step : Step
  pub of_list : Member step steps
  pub holds : P step

-- the steps are edges in the plane s, no corner is outside a side, and each step has its neighbours in the list
pub record IsLinked (s : Plane) (steps : List Step) : Type 0 where
  pub first : Step
  pub first_of : Member first steps
  pub edges : Each (IsEdgeOf s) steps
  pub inside : (e f : Step) → Member e steps → Member f steps → pos 0 ≤ℤ value e.side f.start
  pub before : (e : Step) → Member e steps → HasStep (λ f. Follows f e) steps
  pub after : (e : Step) → Member e steps → HasStep (λ f. Follows e f) steps

abbrev pub sides : List Step → List Plane
sides steps = map (λ e. e.side) steps

abbrev pub corners : List Step → List Point
corners steps = map (λ e. e.start) steps

pub side_member : (e : Step) (steps : List Step) → Member e steps → Member e.side (sides steps)
side_member e steps m = member_map (λ e. e.side) e steps m

pub corner_member : (e : Step) (steps : List Step) → Member e steps → Member e.start (corners steps)
corner_member e steps m = member_map (λ e. e.start) e steps m

-- a fact of each side or each corner from one of each step
pub each_mapped : {X Y : Type 0} (P : Y → Type 0) (f : X → Y) (xs : List X) → ((x : X) → Member x xs → P (f x)) → Each P (map f xs)
each_mapped P f [] h = tt
each_mapped P f (x ∷ xs) h = (h x (inl refl), each_mapped P f xs (λ y m. h y (inr m)))

module _ (s : Plane) (steps : List Step) (linked : IsLinked s steps) where
  pub edge : (e : Step) → Member e steps → IsEdgeOf s e
  edge e m = each_member (IsEdgeOf s) e steps m linked.edges

  -- the neighbours' sides are sides of the list
  pub prev_member : (e : Step) → Member e steps → Member e.prev (sides steps)
  prev_member e m = let f = linked.before e m in subst (λ h. Member h (sides steps)) f.holds.2 (side_member f.step steps f.of_list)

  pub next_member : (e : Step) → Member e steps → Member e.next (sides steps)
  next_member e m = let f = linked.after e m in subst (λ h. Member h (sides steps)) (sym f.holds.1) (side_member f.step steps f.of_list)

  -- what holds of the corners where steps begin holds of those where they end
  pub at_ends : (P : Point → Type 0) → ((e : Step) → Member e steps → P e.start) → (e : Step) → Member e steps → P e.end
  at_ends P h e m = let f = linked.after e m in subst P (sym f.holds.0) (h f.step f.of_list)

  -- each side has a corner strictly inside: where the step before begins
  pub far_corner : (e : Step) → Member e steps → HasStep (λ f. In f.start e.side) steps
  far_corner e m =
      let f = linked.before e m in
      record { step = f.step; of_list = f.of_list; holds = subst (λ h. In f.step.start h) f.holds.1 (edge f.step f.of_list).inside_next }

  -- two sides that meet
  pub has_corner : HasCorner s (sides steps)
  has_corner =
      let e = linked.first in
      let m = linked.first_of in
      record { first = e.prev; second = e.side; first_of = prev_member e m; second_of = side_member e steps m; apart = apart (turn s e.prev e.side) (edge e m).left }
    where
      apart : (x : ℤ) → pos 0 <ℤ x → x ≢ pos 0
      apart x h e = omega (arith, ints)
