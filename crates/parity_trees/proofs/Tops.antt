-- The whole walk, and what a turn may rely on.
use Rattle.std.proofs.Common.{◌≡◌, List, [], ◌∷◌, ◌++◌, false, refl, sym, subst, arith}
use Rattle.plane_core.specs.declared.numbers.Plane.{Plane}
use Rattle.plane_cells.specs.Cells.{IsCellOf}
use Rattle.tree_pool.specs.declared.node.TreeId.{TreeId}
use Rattle.tree_pool.specs.Trees.{Tree}
use Rattle.tree_pool.specs.Pools.{Slots, StandsFor, AreTrees}
use Rattle.parity_trees.specs.declared.regions.Region.{Region}
use Rattle.parity_trees.specs.declared.work.Work.{Work}
use Rattle.parity_trees.specs.declared.work.Frame.{Frame}
use Rattle.parity_trees.specs.declared.work.Frame.TheVariants.{Back, Join}
use Rattle.parity_trees.specs.declared.work.State.TheVariants.{Down, Up}
use Rattle.parity_trees.specs.Regions.{IsParityOf}
use Rattle.parity_trees.specs.Works.{Goal, sum_of, IsMadeFor, IsFrameFor, AreFramesFor, IsFrameLive, IsWalkFor}
use Rattle.parity_trees.proofs.Frames.{pop}

module _ (planes : List Plane) where
  pub begins : (pool : Slots) (work : Work) → IsCellOf planes work.cell → IsWalkFor pool planes (record { steps = work.cell.steps.items; sum = sum_of work.count }) (Down work) []
  begins pool work cell = record {
    part = record { steps = work.cell.steps.items; sum = sum_of work.count };
    waits = refl;
    here = record { cell = cell; enough = λ t r. r };
  }

  pub ends : (pool : Slots) (whole : Goal) (id : TreeId) → IsWalkFor pool planes whole (Up id) [] → IsMadeFor pool planes whole id
  ends pool whole id walk = subst (λ g. IsMadeFor pool planes g id) (sym walk.waits) walk.here

  -- the tree in the cell of the path without steps is the tree
  pub counted : (pool : Slots) → AreTrees pool → (id : TreeId) (regions : List Region) → IsMadeFor pool planes (record { steps = []; sum = record { regions = regions; odd = false } }) id → (t : Tree) → StandsFor pool id t
      → IsParityOf planes regions t
  counted pool ok id regions made t stands =
      let same = ok.one_tree id made.tree t made.stands stands in
      subst (IsParityOf planes regions) same (record {
        value = λ q point cube off. made.right.value q (record { is_point = point; in_cube = cube; kept = λ k d below. absurd (omega arith) }) off;
        among = made.right.among;
      })

  frame_live : (pool : Slots) → AreTrees pool → (whole part : Goal) (frame : Frame) → IsFrameFor pool planes whole part frame → IsFrameLive pool frame
  frame_live pool ok whole part (Back p work) f = tt
  frame_live pool ok whole part (Join p front) f = ok.live front f.1.tree f.1.stands

  pub last_live : (pool : Slots) → AreTrees pool → (whole part : Goal) (frames : List Frame) (frame : Frame) → (frames' : List Frame) → frames' ≡ frames ++ frame ∷ []
      → AreFramesFor pool planes whole frames' part → IsFrameLive pool frame
  last_live pool ok whole part frames frame frames' e r =
      let i = pop planes pool frames whole part frame (subst (λ fs. AreFramesFor pool planes whole fs part) e r) in
      frame_live pool ok i.0 part frame i.2
