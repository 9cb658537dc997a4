-- The whole walk, and the tree that a table ignores.
use Rattle.std.proofs.Common.{◌≡◌, Bool, true, false, List, [], ◌∷◌, ◌++◌, Some, refl, sym, ap, subst, ◌∙◌, inl, inr, arith}
use Rattle.plane_core.specs.declared.numbers.Plane.{Plane}
use Rattle.plane_cells.specs.Cells.{IsCellOf}
use Rattle.tree_pool.specs.declared.node.TreeId.{TreeId}
use Rattle.tree_pool.specs.Trees.{Tree, leaf}
use Rattle.tree_pool.specs.Pools.{Slots, StandsFor, AreTrees}
use Rattle.tree_pool.proofs.Laws.{has_value}
use Rattle.tree_merge.specs.declared.table.Table4.{Table4}
use Rattle.tree_merge.specs.declared.work.Pair.{Pair}
use Rattle.tree_merge.specs.declared.work.Work.{Work}
use Rattle.tree_merge.specs.declared.work.Frame.{Frame}
use Rattle.tree_merge.specs.declared.work.Frame.TheVariants.{Back, Join}
use Rattle.tree_merge.specs.declared.work.State.TheVariants.{Down, Up}
use Rattle.tree_merge.specs.Tables.{entry, entry_of, IsMergeOf}
use Rattle.tree_merge.specs.Works.{Two, Goal, StandForTwo, AreLive, IsWorkFor, IsMadeFor, IsFrameFor, AreFramesFor, IsFrameLive, IsWalkFor}
use Rattle.tree_merge.proofs.Frames.{pop}

module _ (planes : List Plane) (table : Table4) where
  pub begins : (pool : Slots) (work : Work) (w : Two) → IsCellOf planes work.cell → StandForTwo pool work.pair w
      → IsWalkFor pool planes table (record { steps = work.cell.steps.items; trees = w }) (Down work) []
  begins pool work w cell stand = record {
    part = record { steps = work.cell.steps.items; trees = w };
    waits = refl;
    here = record { trees = w; stand = stand; cell = cell; enough = λ t r. r };
  }

  pub ends : (pool : Slots) (whole : Goal) (id : TreeId) → IsWalkFor pool planes table whole (Up id) [] → IsMadeFor pool planes table whole id
  ends pool whole id walk = subst (λ g. IsMadeFor pool planes table g id) (sym walk.waits) walk.here

  -- the merge in the cell of the path without steps is the merge
  pub merged : (pool : Slots) → AreTrees pool → (id : TreeId) (f g t : Tree) → IsMadeFor pool planes table (record { steps = []; trees = record { first = f; second = g } }) id → StandsFor pool id t
      → IsMergeOf planes table f g t
  merged pool ok id f g t made stands =
      let same = ok.one_tree id made.tree t made.stands stands in
      subst (IsMergeOf planes table f g) same (record {
        value = λ q point cube off on. made.right.value q (record { is_point = point; in_cube = cube; kept = λ k d below. absurd (omega arith) }) (off, on);
        among = made.right.among;
      })

  ignored : (x y : Bool) → entry table true true ≡ entry table false true → entry table true false ≡ entry table false false → entry table false y ≡ entry table x y
  ignored true true e h = sym e
  ignored true false e h = sym h
  ignored false y e h = refl

  -- where the table ignores the first tree, a leaf will do
  pub needless : entry table true true ≡ entry table false true → entry table true false ≡ entry table false false → (f g t : Tree) → IsMergeOf planes table (leaf false) g t → IsMergeOf planes table f g t
  needless e h f g t m = record {
    value = λ q point cube off on.
        let x = has_value planes f q off in
        let y = has_value planes g q on in
        m.value q point cube (λ k is. absurd is) on ∙ (λ i. entry_of table (Some false) (y.1 i)) ∙ ap Some (ignored x.0 y.0 e h) ∙ sym (λ i. entry_of table (x.1 i) (y.1 i));
    among = λ k is. elim (m.among k is) [ inl i ↦ absurd i | inr i ↦ inr i ];
  }

  -- ---- what a turn may rely on
  pub work_live : (pool : Slots) → AreTrees pool → (whole : Goal) (work : Work) → IsWorkFor pool planes table whole work → AreLive pool work.pair
  work_live pool ok whole work w = (ok.live work.pair.first w.trees.first w.stand.0, ok.live work.pair.second w.trees.second w.stand.1)

  frame_live : (pool : Slots) → AreTrees pool → (whole part : Goal) (frame : Frame) → IsFrameFor pool planes table whole part frame → IsFrameLive pool frame
  frame_live pool ok whole part (Back p work) f = tt
  frame_live pool ok whole part (Join p front) f = ok.live front f.1.tree f.1.stands

  pub last_live : (pool : Slots) → AreTrees pool → (whole part : Goal) (frames : List Frame) (frame : Frame) → (frames' : List Frame) → frames' ≡ frames ++ frame ∷ []
      → AreFramesFor pool planes table whole frames' part → IsFrameLive pool frame
  last_live pool ok whole part frames frame frames' e r =
      let i = pop planes table pool frames whole part frame (subst (λ fs. AreFramesFor pool planes table whole fs part) e r) in
      frame_live pool ok i.0 part frame i.2

-- live numbers stand for trees
pub some_two : (pool : Slots) → AreTrees pool → (pair : Pair) → AreLive pool pair → (w : Two) × StandForTwo pool pair w
some_two pool ok pair live =
    let f = ok.tree pair.first live.0 in
    let g = ok.tree pair.second live.1 in
    (record { first = f.0; second = g.0 }, (f.1, g.1))
