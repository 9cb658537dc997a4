-- One step of a walk.
use Rattle.std.proofs.Common.{◌++◌, [], ◌∷◌, ℕ, Bool, true, false, List, sym}
use Rattle.std.specs.Prelude.{sum_by}
use Rattle.std.proofs.lemmas.List.Sums.{sum_by_push}
use Rattle.plane_core.specs.declared.numbers.Plane.{Plane}
use Rattle.plane_core.specs.declared.book.PlaneId.{PlaneId}
use Rattle.poly_frag.specs.Frags.{plane_at}
use Rattle.plane_cells.specs.Cells.{HasPointBehind, HasPointInFront, IsPartCell}
use Rattle.plane_cells.specs.declared.steps.Cell.{Cell}
use Rattle.tree_pool.specs.declared.node.TreeId.{TreeId}
use Rattle.tree_pool.specs.Trees.{Tree, leaf, IsTreeOver}
use Rattle.tree_pool.specs.Pools.{Slots, IsLive, StandsFor, KeepsTrees, AreTrees}
use Rattle.tree_merge.specs.declared.table.Table4.{Table4}
use Rattle.tree_merge.specs.declared.work.Pair.{Pair}
use Rattle.tree_merge.specs.declared.work.Work.{Work}
use Rattle.tree_merge.specs.declared.work.Next.TheVariants.{Settled}
use Rattle.tree_merge.specs.declared.work.Frame.{Frame}
use Rattle.tree_merge.specs.declared.work.Frame.TheVariants.{Back, Join}
use Rattle.tree_merge.specs.declared.work.State.TheVariants.{Down, Up}
use Rattle.tree_merge.specs.Works.{Two, Goal, StandForTwo, IsDivided, IsNext, IsFront, IsBack, GoesOn, height_of_pair, work_weight, frame_weight}
use Rattle.tree_merge.proofs.Weights.{less_one, less_both, less_leaf, less_back, less_join}
use Rattle.tree_merge.proofs.Frames.{push, pop, frames_kept, frames_same}
use Rattle.tree_merge.proofs.Rights.{part_right, all_front, all_back, joint}

module _ (planes : List Plane) (table : Table4) where
  abbrev waiting : Slots → List Frame → ℕ
  waiting pool frames = sum_by (frame_weight pool) frames

  -- ---- down
  module _ (pool : Slots) (pair : Pair) (cell : Cell) (frames : List Frame) where
    abbrev work : Work
    work = record { cell = cell; pair = pair }

    pub settled : (v : Bool) (id : TreeId) → ((w : Two) → StandForTwo pool pair w → IsNext pool table pair w (Settled v)) → StandsFor pool id (leaf v)
        → GoesOn planes table pool (Down work) frames pool (Up id) frames
    settled v id next stands whole walk =
        let w = walk.here in (
          record {
            part = walk.part;
            waits = walk.waits;
            here = record {
              tree = leaf v;
              stands = stands;
              right = w.enough (leaf v) (record {
                value = λ q i off. sym (next w.trees w.stand planes q off);
                among = λ k is. absurd is;
              });
            };
          },
          less_leaf (height_of_pair pool pair) (waiting pool frames),
        )

    module _ (p : PlaneId) (front back : Pair) (divided : (w : Two) → StandForTwo pool pair w → IsDivided pool table pair w p.k front back) where
      pub front_only : (HasPointBehind planes cell.steps.items (plane_at planes p) → ⊥) → GoesOn planes table pool (Down work) frames pool (Down (record { cell = cell; pair = front })) frames
      front_only none whole walk =
          let w = walk.here in
          let d = divided w.trees w.stand in (
            record {
              part = walk.part;
              waits = walk.waits;
              here = record {
                trees = d.in_front;
                stand = d.front_stand;
                cell = w.cell;
                enough = λ t r. w.enough t (part_right planes table cell.steps.items (IsFront planes p.k) w.trees d.in_front (d.front_part planes) (all_front planes table cell.steps.items p w.trees none d.is_plane) t r);
              };
            },
            less_one (height_of_pair pool front) (height_of_pair pool pair) (waiting pool frames) d.front_lower,
          )

      pub back_only : (HasPointInFront planes cell.steps.items (plane_at planes p) → ⊥) → GoesOn planes table pool (Down work) frames pool (Down (record { cell = cell; pair = back })) frames
      back_only none whole walk =
          let w = walk.here in
          let d = divided w.trees w.stand in (
            record {
              part = walk.part;
              waits = walk.waits;
              here = record {
                trees = d.behind;
                stand = d.back_stand;
                cell = w.cell;
                enough = λ t r. w.enough t (part_right planes table cell.steps.items (IsBack planes p.k) w.trees d.behind (d.back_part planes) (all_back planes table cell.steps.items p w.trees none d.is_plane) t r);
              };
            },
            less_one (height_of_pair pool back) (height_of_pair pool pair) (waiting pool frames) d.back_lower,
          )

      pub crosses : (before behind : Cell) → IsPartCell planes cell.steps.items (record { plane = p; in_front = true }) before → IsPartCell planes cell.steps.items (record { plane = p; in_front = false }) behind
          → GoesOn planes table pool (Down work) frames pool (Down (record { cell = before; pair = front })) (frames ++ Back p (record { cell = behind; pair = back }) ∷ [])
      crosses before behind first second whole walk =
          let w = walk.here in
          let d = divided w.trees w.stand in
          let frame : Frame = Back p (record { cell = behind; pair = back }) in
          let front_goal : Goal = record { steps = before.steps.items; trees = d.in_front } in
          let back_goal : Goal = record { steps = behind.steps.items; trees = d.behind } in
          let joined = joint planes table cell.steps.items p before behind w.trees d.in_front d.behind first second (d.front_part planes) (d.back_part planes) d.is_plane in (
            record {
              part = front_goal;
              waits = push planes table pool frames whole walk.part front_goal frame walk.waits (
                back_goal,
                record { trees = d.behind; stand = d.back_stand; cell = second.is_cell; enough = λ t r. r },
                λ x y t r s over. w.enough t (joined x y t r s over),
              );
              here = record { trees = d.in_front; stand = d.front_stand; cell = first.is_cell; enough = λ t r. r };
            },
            less_both (height_of_pair pool front) (height_of_pair pool back) (height_of_pair pool pair) (waiting pool frames) (waiting pool (frames ++ frame ∷ [])) d.front_lower d.back_lower
                (sum_by_push (frame_weight pool) frames frame),
          )

  -- ---- and up
  pub back_next : (pool : Slots) (p : PlaneId) (work : Work) (id : TreeId) (frames : List Frame) → GoesOn planes table pool (Up id) (frames ++ Back p work ∷ []) pool (Down work) (frames ++ Join p id ∷ [])
  back_next pool p work id frames whole walk =
      let i = pop planes table pool frames whole walk.part (Back p work) walk.waits in
      let f = i.2 in (
        record {
          part = f.0;
          waits = push planes table pool frames whole i.0 f.0 (Join p id) i.1 (walk.part, walk.here, f.2);
          here = f.1;
        },
        less_back (work_weight pool work) (waiting pool frames) (waiting pool (frames ++ Back p work ∷ [])) (waiting pool (frames ++ Join p id ∷ []))
            (sum_by_push (frame_weight pool) frames (Back p work)) (sum_by_push (frame_weight pool) frames (Join p id)),
      )

  pub join_next : (old new : Slots) (p : PlaneId) (front id made : TreeId) (frames : List Frame) → KeepsTrees old new → AreTrees old → AreTrees new → IsLive new made
      → ((f g t : Tree) → StandsFor old front f → StandsFor old id g → StandsFor new made t → IsTreeOver p.k f g t)
      → GoesOn planes table old (Up id) (frames ++ Join p front ∷ []) new (Up made) frames
  join_next old new p front id made frames kept before after live over whole walk =
      let i = pop planes table old frames whole walk.part (Join p front) walk.waits in
      let f = i.2 in
      let t = after.tree made live in (
        record {
          part = i.0;
          waits = frames_kept planes table old new kept frames whole i.0 i.1;
          here = record {
            tree = t.0;
            stands = t.1;
            right = f.2 f.1.tree walk.here.tree t.0 f.1.right walk.here.right (over f.1.tree walk.here.tree t.0 f.1.stands walk.here.stands t.1);
          };
        },
        less_join (waiting old frames) (waiting old (frames ++ Join p front ∷ [])) (waiting new frames)
            (sum_by_push (frame_weight old) frames (Join p front)) (frames_same planes table old new kept before after frames whole i.0 i.1),
      )
