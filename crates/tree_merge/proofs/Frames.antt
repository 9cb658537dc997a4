-- What waits, with one frame more or less, and in a pool that has grown.
use Rattle.std.proofs.Common.{◌≡◌, ◌+◌, ◌++◌, [], ◌∷◌, List, refl, sym, subst, ◌∙◌}
use Rattle.std.specs.Prelude.{sum_by}
use Rattle.std.proofs.lemmas.List.Sums.{sum_by-cons}
use Rattle.plane_core.specs.declared.numbers.Plane.{Plane}
use Rattle.tree_pool.specs.declared.node.TreeId.{TreeId}
use Rattle.tree_pool.specs.Pools.{Slots, KeepsTrees, AreTrees}
use Rattle.tree_pool.proofs.Laws.{rank_kept}
use Rattle.tree_merge.specs.declared.table.Table4.{Table4}
use Rattle.tree_merge.specs.declared.work.Work.{Work}
use Rattle.tree_merge.specs.declared.work.Frame.{Frame}
use Rattle.tree_merge.specs.declared.work.Frame.TheVariants.{Back, Join}
use Rattle.tree_merge.specs.Works.{Goal, IsWorkFor, IsMadeFor, IsFrameFor, AreFramesFor, weight_of, frame_weight}

module _ (planes : List Plane) (table : Table4) where
  pub push : (pool : Slots) (frames : List Frame) (whole middle part : Goal) (frame : Frame) → AreFramesFor pool planes table whole frames middle → IsFrameFor pool planes table middle part frame
      → AreFramesFor pool planes table whole (frames ++ frame ∷ []) part
  push pool [] whole middle part frame e f = (part, subst (λ g. IsFrameFor pool planes table g part frame) (sym e) f, refl)
  push pool (x ∷ xs) whole middle part frame r f = (r.0, r.1, push pool xs r.0 middle part frame r.2 f)

  pub pop : (pool : Slots) (frames : List Frame) (whole part : Goal) (frame : Frame) → AreFramesFor pool planes table whole (frames ++ frame ∷ []) part
      → (middle : Goal) × AreFramesFor pool planes table whole frames middle × IsFrameFor pool planes table middle part frame
  pop pool [] whole part frame r = (whole, refl, subst (λ g. IsFrameFor pool planes table whole g frame) r.2 r.1)
  pop pool (x ∷ xs) whole part frame r =
      let i = pop pool xs r.0 part frame r.2 in
      (i.0, (r.0, r.1, i.1), i.2)

  module _ (old new : Slots) (kept : KeepsTrees old new) where
    work_kept : (goal : Goal) (work : Work) → IsWorkFor old planes table goal work → IsWorkFor new planes table goal work
    work_kept goal work w = record {
      trees = w.trees;
      stand = (kept work.pair.first w.trees.first w.stand.0, kept work.pair.second w.trees.second w.stand.1);
      cell = w.cell;
      enough = w.enough;
    }

    pub made_kept : (goal : Goal) (id : TreeId) → IsMadeFor old planes table goal id → IsMadeFor new planes table goal id
    made_kept goal id m = record { tree = m.tree; stands = kept id m.tree m.stands; right = m.right }

    frame_kept : (whole part : Goal) (frame : Frame) → IsFrameFor old planes table whole part frame → IsFrameFor new planes table whole part frame
    frame_kept whole part (Back plane work) f = (f.0, work_kept f.0 work f.1, f.2)
    frame_kept whole part (Join plane front) f = (f.0, made_kept f.0 front f.1, f.2)

    pub frames_kept : (frames : List Frame) (whole part : Goal) → AreFramesFor old planes table whole frames part → AreFramesFor new planes table whole frames part
    frames_kept [] whole part e = e
    frames_kept (x ∷ xs) whole part r = (r.0, frame_kept whole r.0 x r.1, frames_kept xs r.0 part r.2)

    module _ (before : AreTrees old) (after : AreTrees new) where
      frame_same : (whole part : Goal) (frame : Frame) → IsFrameFor old planes table whole part frame → frame_weight new frame ≡ frame_weight old frame
      frame_same whole part (Back plane work) f =
          let w = f.1 in
          let first = rank_kept old new before after kept work.pair.first w.trees.first w.stand.0 in
          let second = rank_kept old new before after kept work.pair.second w.trees.second w.stand.1 in
          λ i. weight_of (first i + second i) + 2
      frame_same whole part (Join plane front) f = refl

      pub frames_same : (frames : List Frame) (whole part : Goal) → AreFramesFor old planes table whole frames part → sum_by (frame_weight new) frames ≡ sum_by (frame_weight old) frames
      frames_same [] whole part e = refl
      frames_same (x ∷ xs) whole part r =
          let head = frame_same whole r.0 x r.1 in
          let rest = frames_same xs r.0 part r.2 in
          sum_by-cons (frame_weight new) x xs ∙ (λ i. head i + rest i) ∙ sym (sum_by-cons (frame_weight old) x xs)
