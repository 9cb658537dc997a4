-- One step of a walk.
use Rattle.std.proofs.Common.{◌≡◌, ◌⊎◌, ◌++◌, [], ◌∷◌, ℕ, ◌<◌, ◌+◌, ◌≤◌, Bool, true, false, List, Some, length, slice_get, pos, ◌<ℤ◌, refl, sym, ap, subst, ◌∙◌, inl, inr, arith}
use Rattle.std.specs.Prelude.{◌≢◌, sum_by}
use Rattle.std.specs.List.{Contains}
use Rattle.std.proofs.lemmas.List.Sums.{sum_by_push}
use Rattle.spec_space.specs.declared.Point.{Point}
use Rattle.spec_solid.specs.Triangles.{differ}
use Rattle.plane_core.specs.declared.numbers.Plane.{Plane}
use Rattle.plane_core.specs.declared.book.PlaneId.{PlaneId}
use Rattle.convex_cycles.proofs.Hull.{opposite_front}
use Rattle.poly_frag.specs.Frags.{plane_at}
use Rattle.plane_cells.specs.Cells.{IsInCell, IsCellOf, IsPartCell}
use Rattle.plane_cells.specs.declared.steps.Cell.{Cell}
use Rattle.plane_cells.specs.declared.steps.Step.{Step}
use Rattle.tree_pool.specs.declared.node.TreeId.{TreeId}
use Rattle.tree_pool.specs.Trees.{Tree, leaf, level_by, value_of, IsPlaneOf, IsTreeOver}
use Rattle.tree_pool.specs.Pools.{Slots, IsLive, StandsFor, KeepsTrees, AreTrees}
use Rattle.parity_trees.specs.declared.regions.Region.{Region}
use Rattle.parity_trees.specs.declared.work.Count.{Count}
use Rattle.parity_trees.specs.declared.work.Work.{Work}
use Rattle.parity_trees.specs.declared.work.Frame.{Frame}
use Rattle.parity_trees.specs.declared.work.Frame.TheVariants.{Back, Join}
use Rattle.parity_trees.specs.declared.work.State.TheVariants.{Down, Up}
use Rattle.parity_trees.specs.Regions.{IsOffSides}
use Rattle.parity_trees.specs.Works.{Sum, Goal, sum_of, told, sides_in, others, IsOnSide, IsLeftOf, IsPartWork, IsRight, IsJoint, GoesOn, frame_weight, work_weight}
use Rattle.parity_trees.proofs.Lists.{others_fewer}
use Rattle.parity_trees.proofs.Cells.{level_is, signs}
use Rattle.parity_trees.proofs.Sums.{differ_false}
use Rattle.parity_trees.proofs.Weights.{less_one, less_both, less_leaf, less_back, less_join}
use Rattle.parity_trees.proofs.Frames.{push, pop, frames_kept}

below : (a b n : ℕ) → a ≤ b → b < n → a < n
below a b n h k = omega arith

module _ (planes : List Plane) where
  abbrev goal_of : List Step → Sum → Goal
  goal_of steps sum = record { steps = steps; sum = sum }

  off_left : (steps : List Step) (taken : Step) (whole part : Sum) → IsLeftOf planes steps taken whole part → (q : Point) → IsOffSides planes (sides_in whole) q → IsOffSides planes (sides_in part) q
  off_left steps taken whole part left q off s c = off s (left.among s c)

  -- the tree of what a cell leaves is one of the whole there
  right_left : (steps : List Step) (taken : Step) (whole part : Sum) → IsLeftOf planes steps taken whole part → (t : Tree) → IsRight planes (goal_of steps part) t → IsRight planes (goal_of steps whole) t
  right_left steps taken whole part left t r = record {
    value = λ q i off. r.value q i (off_left steps taken whole part left q off) ∙ ap Some (left.value q i off);
    among = λ k is. let m = r.among k is in (m.0, left.among m.0 m.1, m.2);
  }

  abbrev waiting : List Frame → ℕ
  waiting frames = sum_by frame_weight frames

  -- ---- down
  pub settled : (pool : Slots) (work : Work) (frames : List Frame) (id : TreeId) → work.count.regions.items ≡ [] → StandsFor pool id (leaf work.count.odd) → GoesOn planes pool (Down work) frames pool (Up id) frames
  settled pool work frames id none stands whole walk = (
    record {
      part = walk.part;
      waits = walk.waits;
      here = record {
        tree = leaf work.count.odd;
        stands = stands;
        right = walk.here.enough (leaf work.count.odd) (record {
          value = λ q i off. ap Some (sym (differ_false work.count.odd) ∙ sym (ap (λ rs. told planes (record { regions = rs; odd = work.count.odd }) q) none));
          among = λ k is. absurd is;
        });
      };
    },
    less_leaf (length (sides_in (sum_of work.count))) (waiting frames),
  )

  fewer : (cell : Cell) (taken : Step) (count : Count) (part : Work) → IsPartWork planes cell taken count part → (f : Bool) → Contains (sides_in (sum_of count)) (record { plane = taken.plane; in_front = f })
      → length (sides_in (sum_of part.count)) < length (sides_in (sum_of count))
  fewer cell taken count part is f c =
      below (length (sides_in (sum_of part.count))) (others taken (sides_in (sum_of count))) (length (sides_in (sum_of count))) is.left.fewer
      (others_fewer taken (record { plane = taken.plane; in_front = f }) (sides_in (sum_of count)) refl c)

  cell_of_part : (cell : Cell) (taken : Step) (count : Count) (part : Work) → IsPartWork planes cell taken count part → IsCellOf planes cell → IsCellOf planes part.cell
  cell_of_part cell taken count part is cell_is = subst (IsCellOf planes) (sym is.cell_is) cell_is

  -- the same, for the part's own cell
  left_there : (cell : Cell) (taken : Step) (count : Count) (part : Work) → IsPartWork planes cell taken count part → IsLeftOf planes part.cell.steps.items taken (sum_of count) (sum_of part.count)
  left_there cell taken count part is = subst (λ c. IsLeftOf planes c.steps.items taken (sum_of count) (sum_of part.count)) (sym is.cell_is) is.left

  pub one_side : (pool : Slots) (cell : Cell) (count : Count) (frames : List Frame) (taken : Step) (part : Work) → IsPartWork planes cell taken count part
      → (f : Bool) → Contains (sides_in (sum_of count)) (record { plane = taken.plane; in_front = f })
      → GoesOn planes pool (Down (record { cell = cell; count = count })) frames pool (Down part) frames
  one_side pool cell count frames taken part is f c whole walk = (
    record {
      part = walk.part;
      waits = walk.waits;
      here = record {
        cell = cell_of_part cell taken count part is walk.here.cell;
        enough = λ t r. walk.here.enough t (right_left cell.steps.items taken (sum_of count) (sum_of part.count) is.left t (subst (λ c. IsRight planes (goal_of c.steps.items (sum_of part.count)) t) is.cell_is r));
      };
    },
    less_one (length (sides_in (sum_of part.count))) (length (sides_in (sum_of count))) (waiting frames) (fewer cell taken count part is f c),
  )

  -- a tree over the trees of the two parts of a cell is the cell's tree
  module _ (steps : List Step) (p : PlaneId) (before behind : Cell) (whole f g : Sum)
      (first : IsPartCell planes steps (record { plane = p; in_front = true }) before)
      (second : IsPartCell planes steps (record { plane = p; in_front = false }) behind)
      (front : IsLeftOf planes before.steps.items (record { plane = p; in_front = true }) whole f)
      (back : IsLeftOf planes behind.steps.items (record { plane = p; in_front = false }) whole g)
      (side : Step) (is_side : Contains (sides_in whole) side) (of_plane : side.plane ≡ p) where
    abbrev ahead : Step
    ahead = record { plane = p; in_front = true }

    abbrev after : Step
    after = record { plane = p; in_front = false }

    joint_front : (x y t : Tree) → IsRight planes (goal_of before.steps.items f) x → IsTreeOver p.k x y t → (q : Point) → IsInCell planes steps q → IsOffSides planes (sides_in whole) q → pos 0 <ℤ level_by (slice_get planes p.k) q
        → value_of planes t q ≡ Some (told planes whole q)
    joint_front x y t r over q i off h =
        let in_part = (first.points q).1 (i, subst (λ v. pos 0 <ℤ v) (level_is (slice_get planes p.k) q) h) in
        over.in_front planes q h ∙ r.value q in_part (off_left before.steps.items ahead whole f front q off) ∙ ap Some (front.value q in_part off)

    joint_back : (x y t : Tree) → IsRight planes (goal_of behind.steps.items g) y → IsTreeOver p.k x y t → (q : Point) → IsInCell planes steps q → IsOffSides planes (sides_in whole) q → level_by (slice_get planes p.k) q <ℤ pos 0
        → value_of planes t q ≡ Some (told planes whole q)
    joint_back x y t r over q i off h =
        let low = subst (λ v. v <ℤ pos 0) (level_is (slice_get planes p.k) q) h in
        let in_part = (second.points q).1 (i, opposite_front (plane_at planes p) q low) in
        over.behind planes q h ∙ r.value q in_part (off_left behind.steps.items after whole g back q off) ∙ ap Some (back.value q in_part off)

    joint_planes : (x y : Tree) → IsRight planes (goal_of before.steps.items f) x → IsRight planes (goal_of behind.steps.items g) y → (k : ℕ) → (k ≡ p.k) ⊎ (IsPlaneOf k x ⊎ IsPlaneOf k y)
        → (s : Step) × Contains (sides_in whole) s × (s.plane.k ≡ k)
    joint_planes x y r s k (inl e) = (side, is_side, ap (λ h. h.k) of_plane ∙ sym e)
    joint_planes x y r s k (inr (inl is)) = let m = r.among k is in (m.0, front.among m.0 m.1, m.2)
    joint_planes x y r s k (inr (inr is)) = let m = s.among k is in (m.0, back.among m.0 m.1, m.2)

    joint : IsJoint planes p.k (goal_of before.steps.items f) (goal_of behind.steps.items g) (goal_of steps whole)
    joint x y t r s over = record {
      value = λ q i off. elim (signs (level_by (slice_get planes p.k) q) (subst (λ h. level_by (slice_get planes h.k) q ≢ pos 0) of_plane (off side is_side))) [
        | inl h ↦ joint_front x y t r over q i off h
        | inr h ↦ joint_back x y t s over q i off h
      ];
      among = λ k is. joint_planes x y r s k (over.planes k is);
    }

  pub both_sides : (pool : Slots) (cell : Cell) (count : Count) (frames : List Frame) (p : PlaneId) (before behind : Cell) (front back : Work)
      → IsPartCell planes cell.steps.items (record { plane = p; in_front = true }) before
      → IsPartCell planes cell.steps.items (record { plane = p; in_front = false }) behind
      → IsPartWork planes before (record { plane = p; in_front = true }) count front
      → IsPartWork planes behind (record { plane = p; in_front = false }) count back
      → (f : Bool) → Contains (sides_in (sum_of count)) (record { plane = p; in_front = f })
      → GoesOn planes pool (Down (record { cell = cell; count = count })) frames pool (Down front) (frames ++ Back p back ∷ [])
  both_sides pool cell count frames p before behind front back first second one two f c whole walk =
      let ahead : Step = record { plane = p; in_front = true } in
      let after : Step = record { plane = p; in_front = false } in
      let front_goal : Goal = record { steps = before.steps.items; sum = sum_of front.count } in
      let back_goal : Goal = record { steps = behind.steps.items; sum = sum_of back.count } in
      let joined = joint cell.steps.items p before behind (sum_of count) (sum_of front.count) (sum_of back.count) first second one.left two.left (record { plane = p; in_front = f }) c refl in (
        record {
          part = front_goal;
          waits = push planes pool frames whole walk.part front_goal (Back p back) walk.waits (
            back_goal,
            record {
              cell = cell_of_part behind after count back two second.is_cell;
              enough = λ t r. subst (λ c. IsRight planes (record { steps = c.steps.items; sum = sum_of back.count }) t) two.cell_is r;
            },
            λ x y t r s over. walk.here.enough t (joined x y t r s over),
          );
          here = record {
            cell = cell_of_part before ahead count front one first.is_cell;
            enough = λ t r. subst (λ c. IsRight planes (record { steps = c.steps.items; sum = sum_of front.count }) t) one.cell_is r;
          };
        },
        less_both (length (sides_in (sum_of front.count))) (length (sides_in (sum_of back.count))) (length (sides_in (sum_of count))) (waiting frames) (waiting (frames ++ Back p back ∷ []))
            (fewer before ahead count front one f c) (fewer behind after count back two f c) (sum_by_push frame_weight frames (Back p back)),
      )

  -- ---- and up
  pub back_next : (pool : Slots) (p : PlaneId) (work : Work) (id : TreeId) (frames : List Frame) → GoesOn planes pool (Up id) (frames ++ Back p work ∷ []) pool (Down work) (frames ++ Join p id ∷ [])
  back_next pool p work id frames whole walk =
      let i = pop planes pool frames whole walk.part (Back p work) walk.waits in
      let f = i.2 in (
        record {
          part = f.0;
          waits = push planes pool frames whole i.0 f.0 (Join p id) i.1 (walk.part, walk.here, f.2);
          here = f.1;
        },
        less_back (work_weight work) (waiting frames) (waiting (frames ++ Back p work ∷ [])) (waiting (frames ++ Join p id ∷ []))
            (sum_by_push frame_weight frames (Back p work)) (sum_by_push frame_weight frames (Join p id)),
      )

  pub join_next : (old new : Slots) (p : PlaneId) (front id made : TreeId) (frames : List Frame) → KeepsTrees old new → AreTrees new → IsLive new made
      → ((f g t : Tree) → StandsFor old front f → StandsFor old id g → StandsFor new made t → IsTreeOver p.k f g t)
      → GoesOn planes old (Up id) (frames ++ Join p front ∷ []) new (Up made) frames
  join_next old new p front id made frames kept after live over whole walk =
      let i = pop planes old frames whole walk.part (Join p front) walk.waits in
      let f = i.2 in
      let t = after.tree made live in (
        record {
          part = i.0;
          waits = frames_kept planes old new kept frames whole i.0 i.1;
          here = record {
            tree = t.0;
            stands = t.1;
            right = f.2 f.1.tree walk.here.tree t.0 f.1.right walk.here.right (over f.1.tree walk.here.tree t.0 f.1.stands walk.here.stands t.1);
          };
        },
        less_join (waiting frames) (waiting (frames ++ Join p front ∷ [])) (waiting frames)
            (sum_by_push frame_weight frames (Join p front)) refl,
      )
