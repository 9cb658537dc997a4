-- From the merges of the parts of a cell to the merge of the cell.
use Rattle.std.proofs.Common.{◌≡◌, ◌⊎◌, ℕ, true, false, List, Option, Some, None, ℤ, pos, negsuc, zero, suc, slice_get, ◌<ℤ◌, refl, sym, ap, subst, ◌∙◌, inl, inr, arith}
use Rattle.std.specs.Prelude.{◌≢◌, ◌+ℤ◌, ◌-ℤ◌, ◌*ℤ◌}
use Rattle.std.proofs.lemmas.Int.{ints}
use Rattle.spec_space.specs.declared.Point.{Point}
use Rattle.spec_space.specs.Points.{value}
use Rattle.plane_core.specs.declared.numbers.Plane.{Plane}
use Rattle.plane_core.specs.declared.book.PlaneId.{PlaneId}
use Rattle.integer_laws.proofs.Products.{zero_left}
use Rattle.convex_cycles.proofs.Hull.{opposite_front}
use Rattle.poly_frag.specs.Frags.{plane_at, numbered}
use Rattle.plane_cells.specs.Cells.{IsInCell, HasPointBehind, HasPointInFront, IsPartCell}
use Rattle.plane_cells.specs.declared.steps.Step.{Step}
use Rattle.plane_cells.specs.declared.steps.Cell.{Cell}
use Rattle.tree_pool.specs.Trees.{Tree, level_by, value_of, IsPlaneOf, IsTreeOver}
use Rattle.tree_merge.specs.declared.table.Table4.{Table4}
use Rattle.tree_merge.specs.Works.{Two, Goal, told, IsPlaneOfTwo, IsOffTwo, IsTwoOn, IsFront, IsBack, IsRight, IsJoint}

zeros : (x y z w : ℤ) → pos 0 *ℤ x +ℤ pos 0 *ℤ y +ℤ pos 0 *ℤ z -ℤ pos 0 *ℤ w ≡ pos 0
zeros x y z w =
    let a = zero_left (pos 0) x refl in
    let b = zero_left (pos 0) y refl in
    let c = zero_left (pos 0) z refl in
    let d = zero_left (pos 0) w refl in
    λ i. a i +ℤ b i +ℤ c i -ℤ d i

level_is : (o : Option Plane) (q : Point) → level_by o q ≡ value (numbered o) q
level_is None q = sym (zeros q.x q.y q.z q.w)
level_is (Some p) q = refl

signs : (v : ℤ) → v ≢ pos 0 → (pos 0 <ℤ v) ⊎ (v <ℤ pos 0)
signs (pos zero) off = absurd (off refl)
signs (pos (suc n)) off = inl (omega (arith, ints))
signs (negsuc n) off = inr (omega (arith, ints))

not_behind : (v : ℤ) → v ≢ pos 0 → (v <ℤ pos 0 → ⊥) → pos 0 <ℤ v
not_behind v off none = elim (signs v off) [ inl h ↦ h | inr h ↦ absurd (none h) ]

not_in_front : (v : ℤ) → v ≢ pos 0 → (pos 0 <ℤ v → ⊥) → v <ℤ pos 0
not_in_front v off none = elim (signs v off) [ inl h ↦ absurd (none h) | inr h ↦ h ]

module _ (planes : List Plane) (table : Table4) where
  abbrev level : ℕ → Point → ℤ
  level k q = level_by (slice_get planes k) q

  off_two : (w : Two) (q : Point) → IsOffTwo planes w q → (k : ℕ) → IsPlaneOfTwo k w → level k q ≢ pos 0
  off_two w q off k (inl is) = off.0 k is
  off_two w q off k (inr is) = off.1 k is

  off_part : (side : Point → Type 0) (whole part : Two) → IsTwoOn planes table side whole part → (q : Point) → IsOffTwo planes whole q → IsOffTwo planes part q
  off_part side whole part t q off = (
    (λ k is. off_two whole q off k (t.among k (inl is))),
    (λ k is. off_two whole q off k (t.among k (inr is))),
  )

  -- where all of the cell lies on the side, the part's merge is the whole's
  pub part_right : (steps : List Step) (side : Point → Type 0) (whole part : Two) → IsTwoOn planes table side whole part → ((q : Point) → IsInCell planes steps q → IsOffTwo planes whole q → side q)
      → (t : Tree) → IsRight planes table (record { steps = steps; trees = part }) t → IsRight planes table (record { steps = steps; trees = whole }) t
  part_right steps side whole part on all t r = record {
    value = λ q i off. r.value q i (off_part side whole part on q off) ∙ sym (on.value q off (all q i off));
    among = λ k is. on.among k (r.among k is);
  }

  pub all_front : (steps : List Step) (p : PlaneId) (whole : Two) → (HasPointBehind planes steps (plane_at planes p) → ⊥) → IsPlaneOfTwo p.k whole
      → (q : Point) → IsInCell planes steps q → IsOffTwo planes whole q → IsFront planes p.k q
  all_front steps p whole none is q i off =
      not_behind (level p.k q) (off_two whole q off p.k is)
      (λ back. none (record { point = q; in_cell = i; behind = subst (λ v. v <ℤ pos 0) (level_is (slice_get planes p.k) q) back }))

  pub all_back : (steps : List Step) (p : PlaneId) (whole : Two) → (HasPointInFront planes steps (plane_at planes p) → ⊥) → IsPlaneOfTwo p.k whole
      → (q : Point) → IsInCell planes steps q → IsOffTwo planes whole q → IsBack planes p.k q
  all_back steps p whole none is q i off =
      not_in_front (level p.k q) (off_two whole q off p.k is)
      (λ front. none (record { point = q; in_cell = i; in_front = subst (λ v. pos 0 <ℤ v) (level_is (slice_get planes p.k) q) front }))

  -- a tree over the merges of the two parts of a cell is the cell's merge
  module _ (steps : List Step) (p : PlaneId) (before behind : Cell) (whole f g : Two)
      (first : IsPartCell planes steps (record { plane = p; in_front = true }) before)
      (second : IsPartCell planes steps (record { plane = p; in_front = false }) behind)
      (front : IsTwoOn planes table (IsFront planes p.k) whole f)
      (back : IsTwoOn planes table (IsBack planes p.k) whole g)
      (is_plane : IsPlaneOfTwo p.k whole) where
    abbrev front_goal : Goal
    front_goal = record { steps = before.steps.items; trees = f }

    abbrev back_goal : Goal
    back_goal = record { steps = behind.steps.items; trees = g }

    joint_front : (x y t : Tree) → IsRight planes table front_goal x → IsTreeOver p.k x y t → (q : Point) → IsInCell planes steps q → IsOffTwo planes whole q → IsFront planes p.k q
        → value_of planes t q ≡ told planes table whole q
    joint_front x y t r over q i off side =
        let in_part = (first.points q).1 (i, subst (λ v. pos 0 <ℤ v) (level_is (slice_get planes p.k) q) side) in
        over.in_front planes q side ∙ r.value q in_part (off_part (IsFront planes p.k) whole f front q off) ∙ sym (front.value q off side)

    joint_back : (x y t : Tree) → IsRight planes table back_goal y → IsTreeOver p.k x y t → (q : Point) → IsInCell planes steps q → IsOffTwo planes whole q → IsBack planes p.k q
        → value_of planes t q ≡ told planes table whole q
    joint_back x y t r over q i off side =
        let below = subst (λ v. v <ℤ pos 0) (level_is (slice_get planes p.k) q) side in
        let in_part = (second.points q).1 (i, opposite_front (plane_at planes p) q below) in
        over.behind planes q side ∙ r.value q in_part (off_part (IsBack planes p.k) whole g back q off) ∙ sym (back.value q off side)

    joint_planes : (x y t : Tree) → IsRight planes table front_goal x → IsRight planes table back_goal y → IsTreeOver p.k x y t → (k : ℕ) → (k ≡ p.k) ⊎ (IsPlaneOf k x ⊎ IsPlaneOf k y) → IsPlaneOfTwo k whole
    joint_planes x y t r s over k (inl e) = subst (λ h. IsPlaneOfTwo h whole) (sym e) is_plane
    joint_planes x y t r s over k (inr (inl is)) = front.among k (r.among k is)
    joint_planes x y t r s over k (inr (inr is)) = back.among k (s.among k is)

    pub joint : IsJoint planes table p.k front_goal back_goal (record { steps = steps; trees = whole })
    joint x y t r s over = record {
      value = λ q i off. elim (signs (level p.k q) (off_two whole q off p.k is_plane)) [ inl side ↦ joint_front x y t r over q i off side | inr side ↦ joint_back x y t s over q i off side ];
      among = λ k is. joint_planes x y t r s over k (over.planes k is);
    }

-- no point lies strictly behind a plane that the book does not have
pub none_behind : (planes : List Plane) (steps : List Step) (p : PlaneId) → slice_get planes p.k ≡ None → HasPointBehind planes steps (plane_at planes p) → ⊥
none_behind planes steps p e b =
    let none : pos 0 <ℤ pos 0 → ⊥ = λ h. omega (arith, ints) in
    none (subst (λ v. v <ℤ pos 0) (ap (λ o. value (numbered o) b.point) e ∙ sym (level_is None b.point)) b.behind)
