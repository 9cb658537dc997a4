-- Convex cycles: edges in order, each with the corners where it begins and ends.
use Rattle.std.specs.Prelude.{◌≡◌, ◌⊎◌, List, [], ◌∷◌, ℤ, pos, ◌<ℤ◌, All}
use Rattle.std.specs.List.{AllPairs}
use Rattle.spec_space.specs.declared.Point.{Point}
use Rattle.spec_space.specs.declared.Plane.{Plane}
use Rattle.spec_space.specs.Points.{IsPoint, value, normal, dot, cross}

-- above 0 where the cycle turns to the left from the side e to the side f, seen from the front of s
abbrev pub turn : Plane → Plane → Plane → ℤ
turn s e f = dot (normal s) (cross (normal e) (normal f))

-- one edge: it keeps `side`, and runs from the corner `start`, where the edge of `prev` ends, to the corner `end`, where
-- the edge of `next` begins
pub record Step : Type 0 where
  pub prev : Plane
  pub side : Plane
  pub next : Plane
  pub start : Point
  pub end : Point

-- an edge of a convex cycle in the plane s: its corners lie on their sides, each neighbour keeps the other corner strictly,
-- and the cycle turns left at both
pub record IsEdgeOf (s : Plane) (e : Step) : Type 0 where
  pub start_point : IsPoint e.start
  pub end_point : IsPoint e.end
  pub start_on : value s e.start ≡ pos 0
  pub end_on : value s e.end ≡ pos 0
  pub start_prev : value e.prev e.start ≡ pos 0
  pub start_side : value e.side e.start ≡ pos 0
  pub end_side : value e.side e.end ≡ pos 0
  pub end_next : value e.next e.end ≡ pos 0
  pub inside_prev : pos 0 <ℤ value e.prev e.end
  pub inside_next : pos 0 <ℤ value e.next e.start
  pub left : pos 0 <ℤ turn s e.prev e.side
  pub left_next : pos 0 <ℤ turn s e.side e.next

-- f follows e
abbrev pub Follows : Step → Step → Type 0
Follows e f = (e.end ≡ f.start) × (e.next ≡ f.side) × (e.side ≡ f.prev)

-- each of the steps follows the one before it, the first of them e, and `last` follows the last of all
abbrev pub AreChained : Step → List Step → Step → Type 0
AreChained e [] last = Follows e last
AreChained e (f ∷ fs) last = Follows e f × AreChained f fs last

-- each of the steps follows the one before it, and the first follows the last
abbrev pub IsRound : List Step → Type 0
IsRound [] = ⊥
IsRound (e ∷ es) = AreChained e es e

-- the side of e keeps both corners of f strictly, but for the corner that the two may share
abbrev pub Keeps : Step → Step → Type 0
Keeps e f = ((pos 0 <ℤ value e.side f.start) ⊎ (e.end ≡ f.start)) × ((pos 0 <ℤ value e.side f.end) ⊎ (e.start ≡ f.end))

abbrev pub KeepEachOther : Step → Step → Type 0
KeepEachOther e f = Keeps e f × Keeps f e

-- the steps of a convex cycle in the plane s
pub record AreConvex (s : Plane) (steps : List Step) : Type 0 where
  pub round : IsRound steps
  pub edges : All (IsEdgeOf s) steps
  pub convex : AllPairs KeepEachOther steps
