-- What waits, with one frame more or less, and in a pool that has grown.
use Rattle.std.proofs.Common.{◌++◌, [], ◌∷◌, List, refl, sym, subst}
use Rattle.plane_core.specs.declared.numbers.Plane.{Plane}
use Rattle.tree_pool.specs.declared.node.TreeId.{TreeId}
use Rattle.tree_pool.specs.Pools.{Slots, KeepsTrees}
use Rattle.parity_trees.specs.declared.work.Frame.{Frame}
use Rattle.parity_trees.specs.declared.work.Frame.TheVariants.{Back, Join}
use Rattle.parity_trees.specs.Works.{Goal, IsMadeFor, IsFrameFor, AreFramesFor}

module _ (planes : List Plane) where
  pub push : (pool : Slots) (frames : List Frame) (whole middle part : Goal) (frame : Frame) → AreFramesFor pool planes whole frames middle → IsFrameFor pool planes middle part frame
      → AreFramesFor pool planes whole (frames ++ frame ∷ []) part
  push pool [] whole middle part frame e f = (part, subst (λ g. IsFrameFor pool planes g part frame) (sym e) f, refl)
  push pool (x ∷ xs) whole middle part frame r f = (r.0, r.1, push pool xs r.0 middle part frame r.2 f)

  pub pop : (pool : Slots) (frames : List Frame) (whole part : Goal) (frame : Frame) → AreFramesFor pool planes whole (frames ++ frame ∷ []) part
      → (middle : Goal) × AreFramesFor pool planes whole frames middle × IsFrameFor pool planes middle part frame
  pop pool [] whole part frame r = (whole, refl, subst (λ g. IsFrameFor pool planes whole g frame) r.2 r.1)
  pop pool (x ∷ xs) whole part frame r =
      let i = pop pool xs r.0 part frame r.2 in
      (i.0, (r.0, r.1, i.1), i.2)

  module _ (old new : Slots) (kept : KeepsTrees old new) where
    pub made_kept : (goal : Goal) (id : TreeId) → IsMadeFor old planes goal id → IsMadeFor new planes goal id
    made_kept goal id m = record { tree = m.tree; stands = kept id m.tree m.stands; right = m.right }

    frame_kept : (whole part : Goal) (frame : Frame) → IsFrameFor old planes whole part frame → IsFrameFor new planes whole part frame
    frame_kept whole part (Back plane work) f = f
    frame_kept whole part (Join plane front) f = (f.0, made_kept f.0 front f.1, f.2)

    pub frames_kept : (frames : List Frame) (whole part : Goal) → AreFramesFor old planes whole frames part → AreFramesFor new planes whole frames part
    frames_kept [] whole part e = e
    frames_kept (x ∷ xs) whole part r = (r.0, frame_kept whole r.0 x r.1, frames_kept xs r.0 part r.2)
