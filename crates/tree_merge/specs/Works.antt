-- The walk of a merge: what waits, and what it waits for.
use Rattle.std.specs.Prelude.{◌≡◌, ◌⊎◌, ◌<◌, ◌+◌, ◌*◌, ℕ, zero, suc, List, [], ◌∷◌, slice_get, Option, Some, Bool, sum_by, pos, ◌<ℤ◌}
use Rattle.spec_space.specs.declared.Point.{Point}
use Rattle.plane_core.specs.declared.numbers.Plane.{Plane}
use Rattle.plane_cells.specs.Cells.{IsInCell, IsCellOf}
use Rattle.plane_cells.specs.declared.steps.Step.{Step}
use Rattle.tree_pool.specs.declared.node.TreeId.{TreeId}
use Rattle.tree_pool.specs.Trees.{Tree, level_by, value_of, IsPlaneOf, IsOff, IsTreeOver}
use Rattle.tree_pool.specs.Pools.{Slots, rank_at, IsLive, StandsFor}
use Rattle.tree_merge.specs.declared.table.Table4.{Table4}
use Rattle.tree_merge.specs.declared.work.Pair.{Pair}
use Rattle.tree_merge.specs.declared.work.Work.{Work}
use Rattle.tree_merge.specs.declared.work.Next.{Next}
use Rattle.tree_merge.specs.declared.work.Next.TheVariants.{Settled, Divided}
use Rattle.tree_merge.specs.declared.work.Frame.{Frame}
use Rattle.tree_merge.specs.declared.work.Frame.TheVariants.{Back, Join}
use Rattle.tree_merge.specs.declared.work.State.{State}
use Rattle.tree_merge.specs.declared.work.State.TheVariants.{Down, Up}
use Rattle.tree_merge.specs.declared.work.Turn.{Turn}
use Rattle.tree_merge.specs.declared.work.Turn.TheVariants.{On, Done}
use Rattle.tree_merge.specs.Tables.{entry_of}

-- ---- two trees
pub record Two : Type 0 where
  pub first : Tree
  pub second : Tree

-- what the table has for the values of the two at a point
abbrev pub told : List Plane → Table4 → Two → Point → Option Bool
told planes table w q = entry_of table (value_of planes w.first q) (value_of planes w.second q)

abbrev pub IsPlaneOfTwo : ℕ → Two → Type 0
IsPlaneOfTwo k w = IsPlaneOf k w.first ⊎ IsPlaneOf k w.second

abbrev pub IsOffTwo : List Plane → Two → Point → Type 0
IsOffTwo planes w q = IsOff planes w.first q × IsOff planes w.second q

abbrev pub StandForTwo : Slots → Pair → Two → Type 0
StandForTwo pool pair w = StandsFor pool pair.first w.first × StandsFor pool pair.second w.second

abbrev pub AreLive : Slots → Pair → Type 0
AreLive pool pair = IsLive pool pair.first × IsLive pool pair.second

abbrev pub height_of_pair : Slots → Pair → ℕ
height_of_pair pool pair = rank_at pool pair.first + rank_at pool pair.second

-- on a side the part has what the whole has, and its planes are among those of the whole
pub record IsTwoOn (planes : List Plane) (table : Table4) (side : Point → Type 0) (whole part : Two) : Type 0 where
  pub value : (q : Point) → IsOffTwo planes whole q → side q → told planes table whole q ≡ told planes table part q
  pub among : (k : ℕ) → IsPlaneOfTwo k part → IsPlaneOfTwo k whole

abbrev pub IsFront : List Plane → ℕ → Point → Type 0
IsFront planes k q = pos 0 <ℤ level_by (slice_get planes k) q

abbrev pub IsBack : List Plane → ℕ → Point → Type 0
IsBack planes k q = level_by (slice_get planes k) q <ℤ pos 0

-- a plane of the two trees, and lower trees that have in front of it and behind it what the two have there
pub record IsDivided (pool : Slots) (table : Table4) (pair : Pair) (w : Two) (k : ℕ) (front back : Pair) : Type 0 where
  pub in_front : Two
  pub behind : Two
  pub front_stand : StandForTwo pool front in_front
  pub back_stand : StandForTwo pool back behind
  pub front_part : (planes : List Plane) → IsTwoOn planes table (IsFront planes k) w in_front
  pub back_part : (planes : List Plane) → IsTwoOn planes table (IsBack planes k) w behind
  pub is_plane : IsPlaneOfTwo k w
  pub front_lower : height_of_pair pool front < height_of_pair pool pair
  pub back_lower : height_of_pair pool back < height_of_pair pool pair

abbrev pub IsNext : Slots → Table4 → Pair → Two → Next → Type 0
IsNext pool table pair w (Settled v) = (planes : List Plane) (q : Point) → IsOffTwo planes w q → told planes table w q ≡ Some v
IsNext pool table pair w (Divided plane front back) = IsDivided pool table pair w plane.k front back

-- ---- what is sought: the merge of two trees in the cell of a path
pub record Goal : Type 0 where
  pub steps : List Step
  pub trees : Two

pub record IsRight (planes : List Plane) (table : Table4) (goal : Goal) (t : Tree) : Type 0 where
  pub value : (q : Point) → IsInCell planes goal.steps q → IsOffTwo planes goal.trees q → value_of planes t q ≡ told planes table goal.trees q
  pub among : (k : ℕ) → IsPlaneOf k t → IsPlaneOfTwo k goal.trees

-- the work's merge is one that is sought
pub record IsWorkFor (pool : Slots) (planes : List Plane) (table : Table4) (goal : Goal) (work : Work) : Type 0 where
  pub trees : Two
  pub stand : StandForTwo pool work.pair trees
  pub cell : IsCellOf planes work.cell
  pub enough : (t : Tree) → IsRight planes table (record { steps = work.cell.steps.items; trees = trees }) t → IsRight planes table goal t

-- the number is that of a merge that is sought
pub record IsMadeFor (pool : Slots) (planes : List Plane) (table : Table4) (goal : Goal) (id : TreeId) : Type 0 where
  pub tree : Tree
  pub stands : StandsFor pool id tree
  pub right : IsRight planes table goal tree

abbrev pub IsStateFor : Slots → List Plane → Table4 → Goal → State → Type 0
IsStateFor pool planes table goal (Down work) = IsWorkFor pool planes table goal work
IsStateFor pool planes table goal (Up id) = IsMadeFor pool planes table goal id

-- a tree over merges in front of the plane and behind it is the whole merge
abbrev pub IsJoint : List Plane → Table4 → ℕ → Goal → Goal → Goal → Type 0
IsJoint planes table k front back whole = (x y t : Tree) → IsRight planes table front x → IsRight planes table back y → IsTreeOver k x y t → IsRight planes table whole t

-- with a merge for the part, what waits leads to a merge for the whole
abbrev pub IsFrameFor : Slots → List Plane → Table4 → Goal → Goal → Frame → Type 0
IsFrameFor pool planes table whole part (Back plane work) = (other : Goal) × IsWorkFor pool planes table other work × IsJoint planes table plane.k part other whole
IsFrameFor pool planes table whole part (Join plane front) = (other : Goal) × IsMadeFor pool planes table other front × IsJoint planes table plane.k other part whole

-- and so does all that waits, the last of it first
abbrev pub AreFramesFor : Slots → List Plane → Table4 → Goal → List Frame → Goal → Type 0
AreFramesFor pool planes table whole [] part = whole ≡ part
AreFramesFor pool planes table whole (frame ∷ rest) part = (middle : Goal) × IsFrameFor pool planes table whole middle frame × AreFramesFor pool planes table middle rest part

-- the walk leads to a merge for the whole
pub record IsWalkFor (pool : Slots) (planes : List Plane) (table : Table4) (whole : Goal) (state : State) (frames : List Frame) : Type 0 where
  pub part : Goal
  pub waits : AreFramesFor pool planes table whole frames part
  pub here : IsStateFor pool planes table part state

abbrev pub IsFrameLive : Slots → Frame → Type 0
IsFrameLive pool (Back plane work) = Unit {0}
IsFrameLive pool (Join plane front) = IsLive pool front

-- ---- how much is left to be done at most
abbrev pub weight_of : ℕ → ℕ
weight_of zero = 3
weight_of (suc n) = 3 * weight_of n

abbrev pub work_weight : Slots → Work → ℕ
work_weight pool work = weight_of (height_of_pair pool work.pair)

abbrev pub frame_weight : Slots → Frame → ℕ
frame_weight pool (Back plane work) = work_weight pool work + 2
frame_weight pool (Join plane front) = 1

abbrev pub state_weight : Slots → State → ℕ
state_weight pool (Down work) = work_weight pool work
state_weight pool (Up id) = 0

abbrev pub walk_weight : Slots → State → List Frame → ℕ
walk_weight pool state frames = state_weight pool state + sum_by (frame_weight pool) frames

-- a step of a walk leads on to whatever merge the walk leads to, and leaves less to be done
abbrev pub GoesOn : List Plane → Table4 → Slots → State → List Frame → Slots → State → List Frame → Type 0
GoesOn planes table old state frames new next rest = (whole : Goal) → IsWalkFor old planes table whole state frames → IsWalkFor new planes table whole next rest × (walk_weight new next rest < walk_weight old state frames)

-- a turn of a walk goes on so, or ends with the merge
abbrev pub IsTurn : List Plane → Table4 → Slots → State → List Frame → Slots → List Frame → Turn → Type 0
IsTurn planes table old state frames new rest (On next) = GoesOn planes table old state frames new next rest
IsTurn planes table old state frames new rest (Done id) = (whole : Goal) → IsWalkFor old planes table whole state frames → IsMadeFor new planes table whole id
