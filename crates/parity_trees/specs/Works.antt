-- The walk that makes the tree of a parity: what waits, and what it waits for.
use Rattle.std.specs.Prelude.{◌≡◌, ◌≢◌, ◌⊎◌, ◌<◌, ◌≤◌, ◌+◌, ◌*◌, ℕ, zero, suc, nat_eq, if◌then◌else◌, List, [], ◌∷◌, length, slice_get, Some, Bool, true, false, sum_by, pos, ◌<ℤ◌, Contains}
use Rattle.spec_space.specs.declared.Point.{Point}
use Rattle.spec_space.specs.Points.{value}
use Rattle.spec_solid.specs.Triangles.{differ}
use Rattle.plane_core.specs.declared.numbers.Plane.{Plane}
use Rattle.convex_cycles.specs.Sides.{is_in_front}
use Rattle.plane_cells.specs.Cells.{step_side, IsInCell, IsCellOf}
use Rattle.plane_cells.specs.declared.steps.Step.{Step}
use Rattle.plane_cells.specs.declared.steps.Cell.{Cell}
use Rattle.tree_pool.specs.declared.node.TreeId.{TreeId}
use Rattle.tree_pool.specs.Trees.{Tree, level_by, value_of, IsPlaneOf, IsTreeOver}
use Rattle.tree_pool.specs.Pools.{Slots, IsLive, StandsFor}
use Rattle.parity_trees.specs.declared.regions.Region.{Region}
use Rattle.parity_trees.specs.declared.work.Count.{Count}
use Rattle.parity_trees.specs.declared.work.Left.{Left}
use Rattle.parity_trees.specs.declared.work.Left.TheVariants.{Nowhere, Everywhere, Within}
use Rattle.parity_trees.specs.declared.work.Work.{Work}
use Rattle.parity_trees.specs.declared.work.Frame.{Frame}
use Rattle.parity_trees.specs.declared.work.Frame.TheVariants.{Back, Join}
use Rattle.parity_trees.specs.declared.work.State.{State}
use Rattle.parity_trees.specs.declared.work.State.TheVariants.{Down, Up}
use Rattle.parity_trees.specs.declared.work.Turn.{Turn}
use Rattle.parity_trees.specs.declared.work.Turn.TheVariants.{On, Done}
use Rattle.parity_trees.specs.Regions.{is_on_all, lies_in_oddly, all_sides, IsOffSides}

-- ---- counts
pub record Sum : Type 0 where
  pub regions : List Region
  pub odd : Bool

abbrev pub sum_of : Count → Sum
sum_of c = record { regions = c.regions.items; odd = c.odd }

abbrev pub told : List Plane → Sum → Point → Bool
told planes sum q = differ sum.odd (lies_in_oddly planes sum.regions q)

abbrev pub sides_in : Sum → List Step
sides_in sum = all_sides sum.regions

-- how many of the sides are of another plane than the step
abbrev pub others : Step → List Step → ℕ
others taken [] = 0
others taken (s ∷ ss) = if nat_eq s.plane.k taken.plane.k then others taken ss else suc (others taken ss)

-- ---- the sides of cells
-- the cell's points off the step's plane lie on its side
abbrev pub IsOnSide : List Plane → List Step → Step → Type 0
IsOnSide planes steps taken = (q : Point) → IsInCell planes steps q → level_by (slice_get planes taken.plane.k) q ≢ pos 0 → pos 0 <ℤ value (step_side planes taken) q

-- each of the cell's points off the plane of the side lies on the side, or none does
abbrev pub IsDecided : List Plane → List Step → Step → Bool → Type 0
IsDecided planes steps side b = (q : Point) → IsInCell planes steps q → level_by (slice_get planes side.plane.k) q ≢ pos 0 → is_in_front (step_side planes side) q ≡ b

-- no point of the cell off the planes of the sides lies on all sides
abbrev pub IsNowhere : List Plane → List Step → List Step → Type 0
IsNowhere planes steps sides = (q : Point) → IsInCell planes steps q → IsOffSides planes sides q → is_on_all planes sides q ≡ false

-- in the cell the sides `crossing` are as much as all sides
pub record AreCrossing (planes : List Plane) (steps : List Step) (taken : Step) (sides crossing : List Step) : Type 0 where
  pub same : (q : Point) → IsInCell planes steps q → IsOffSides planes sides q → is_on_all planes sides q ≡ is_on_all planes crossing q
  pub among : (s : Step) → Contains crossing s → Contains sides s
  pub fewer : length crossing ≤ others taken sides

abbrev pub IsLeft : List Plane → List Step → Step → Region → Left → Type 0
IsLeft planes steps taken region Nowhere = IsNowhere planes steps region.sides.items
IsLeft planes steps taken region Everywhere = (q : Point) → IsInCell planes steps q → IsOffSides planes region.sides.items q → is_on_all planes region.sides.items q ≡ true
IsLeft planes steps taken region (Within r) = AreCrossing planes steps taken region.sides.items r.sides.items

-- in the cell the new count has the region beside the old one
pub record IsAdded (planes : List Plane) (steps : List Step) (taken : Step) (region : Region) (old new : Sum) : Type 0 where
  pub value : (q : Point) → IsInCell planes steps q → IsOffSides planes region.sides.items q → told planes new q ≡ differ (told planes old q) (is_on_all planes region.sides.items q)
  pub among : (s : Step) → Contains (sides_in new) s → Contains (sides_in old) s ⊎ Contains region.sides.items s
  pub fewer : length (sides_in new) ≤ length (sides_in old) + others taken region.sides.items

-- in the cell the part has the value of the whole, with sides of other planes than the step alone
pub record IsLeftOf (planes : List Plane) (steps : List Step) (taken : Step) (whole part : Sum) : Type 0 where
  pub value : (q : Point) → IsInCell planes steps q → IsOffSides planes (sides_in whole) q → told planes part q ≡ told planes whole q
  pub among : (s : Step) → Contains (sides_in part) s → Contains (sides_in whole) s
  pub fewer : length (sides_in part) ≤ others taken (sides_in whole)

-- the work in a cell that lies on the side of the step
pub record IsPartWork (planes : List Plane) (cell : Cell) (taken : Step) (count : Count) (work : Work) : Type 0 where
  pub cell_is : work.cell ≡ cell
  pub left : IsLeftOf planes cell.steps.items taken (sum_of count) (sum_of work.count)

-- ---- what is sought: the tree of a count in the cell of a path
pub record Goal : Type 0 where
  pub steps : List Step
  pub sum : Sum

pub record IsRight (planes : List Plane) (goal : Goal) (t : Tree) : Type 0 where
  pub value : (q : Point) → IsInCell planes goal.steps q → IsOffSides planes (sides_in goal.sum) q → value_of planes t q ≡ Some (told planes goal.sum q)
  pub among : (k : ℕ) → IsPlaneOf k t → (s : Step) × Contains (sides_in goal.sum) s × (s.plane.k ≡ k)

-- the work's tree is one that is sought
pub record IsWorkFor (planes : List Plane) (goal : Goal) (work : Work) : Type 0 where
  pub cell : IsCellOf planes work.cell
  pub enough : (t : Tree) → IsRight planes (record { steps = work.cell.steps.items; sum = sum_of work.count }) t → IsRight planes goal t

-- the number is that of a tree that is sought
pub record IsMadeFor (pool : Slots) (planes : List Plane) (goal : Goal) (id : TreeId) : Type 0 where
  pub tree : Tree
  pub stands : StandsFor pool id tree
  pub right : IsRight planes goal tree

abbrev pub IsStateFor : Slots → List Plane → Goal → State → Type 0
IsStateFor pool planes goal (Down work) = IsWorkFor planes goal work
IsStateFor pool planes goal (Up id) = IsMadeFor pool planes goal id

-- a tree over trees in front of the plane and behind it is the whole tree
abbrev pub IsJoint : List Plane → ℕ → Goal → Goal → Goal → Type 0
IsJoint planes k front back whole = (x y t : Tree) → IsRight planes front x → IsRight planes back y → IsTreeOver k x y t → IsRight planes whole t

-- with a tree for the part, what waits leads to a tree for the whole
abbrev pub IsFrameFor : Slots → List Plane → Goal → Goal → Frame → Type 0
IsFrameFor pool planes whole part (Back plane work) = (other : Goal) × IsWorkFor planes other work × IsJoint planes plane.k part other whole
IsFrameFor pool planes whole part (Join plane front) = (other : Goal) × IsMadeFor pool planes other front × IsJoint planes plane.k other part whole

-- and so does all that waits, the last of it first
abbrev pub AreFramesFor : Slots → List Plane → Goal → List Frame → Goal → Type 0
AreFramesFor pool planes whole [] part = whole ≡ part
AreFramesFor pool planes whole (frame ∷ rest) part = (middle : Goal) × IsFrameFor pool planes whole middle frame × AreFramesFor pool planes middle rest part

-- the walk leads to a tree for the whole
pub record IsWalkFor (pool : Slots) (planes : List Plane) (whole : Goal) (state : State) (frames : List Frame) : Type 0 where
  pub part : Goal
  pub waits : AreFramesFor pool planes whole frames part
  pub here : IsStateFor pool planes part state

abbrev pub IsFrameLive : Slots → Frame → Type 0
IsFrameLive pool (Back plane work) = Unit {0}
IsFrameLive pool (Join plane front) = IsLive pool front

-- ---- how much is left to be done at most
abbrev pub weight_of : ℕ → ℕ
weight_of zero = 3
weight_of (suc n) = 3 * weight_of n

abbrev pub work_weight : Work → ℕ
work_weight work = weight_of (length (sides_in (sum_of work.count)))

abbrev pub frame_weight : Frame → ℕ
frame_weight (Back plane work) = work_weight work + 2
frame_weight (Join plane front) = 1

abbrev pub state_weight : State → ℕ
state_weight (Down work) = work_weight work
state_weight (Up id) = 0

abbrev pub walk_weight : State → List Frame → ℕ
walk_weight state frames = state_weight state + sum_by frame_weight frames

-- a step of a walk leads on to whatever tree the walk leads to, and leaves less to be done
abbrev pub GoesOn : List Plane → Slots → State → List Frame → Slots → State → List Frame → Type 0
GoesOn planes old state frames new next rest = (whole : Goal) → IsWalkFor old planes whole state frames → IsWalkFor new planes whole next rest × (walk_weight next rest < walk_weight state frames)

-- a turn of a walk goes on so, or ends with the tree
abbrev pub IsTurn : List Plane → Slots → State → List Frame → Slots → List Frame → Turn → Type 0
IsTurn planes old state frames new rest (On next) = GoesOn planes old state frames new next rest
IsTurn planes old state frames new rest (Done id) = (whole : Goal) → IsWalkFor old planes whole state frames → IsMadeFor new planes whole id
