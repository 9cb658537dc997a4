-- On which sides of planes the points of cells lie.
use Rattle.std.proofs.Common.{◌≡◌, ◌⊎◌, ℕ, true, false, Bool, not, List, Option, Some, None, ℤ, pos, negsuc, zero, suc, slice_get, ◌<ℤ◌, refl, sym, ap, subst, ◌∙◌, inl, inr, arith}
use Rattle.std.specs.Prelude.{◌≢◌, ◌+ℤ◌, ◌-ℤ◌, ◌*ℤ◌}
use mathlib.Core.Bool.{beq}
use Rattle.std.proofs.lemmas.Int.{ints}
use Rattle.spec_space.specs.declared.Point.{Point}
use Rattle.spec_space.specs.declared.Plane.{Plane as AnyPlane}
use Rattle.spec_space.specs.Points.{value}
use Rattle.plane_core.specs.declared.numbers.Plane.{Plane}
use Rattle.plane_core.specs.declared.book.PlaneId.{PlaneId}
use Rattle.plane_core.proofs.Laws.{sign_positive, sign_negative}
use Rattle.integer_laws.proofs.Products.{zero_left}
use Rattle.convex_cycles.specs.Sides.{is_in_front}
use Rattle.convex_cycles.proofs.Hull.{opposite_front, from_opposite_front}
use Rattle.poly_frag.specs.Frags.{plane_at, numbered, kept_side}
use Rattle.poly_frag.proofs.Kept.{kept_in_front, kept_behind}
use Rattle.plane_cells.specs.Cells.{step_side, IsInCell, HasPointBehind, HasPointInFront, IsPartCell}
use Rattle.plane_cells.specs.declared.steps.Step.{Step}
use Rattle.plane_cells.specs.declared.steps.Cell.{Cell}
use Rattle.tree_pool.specs.Trees.{level_by}
use Rattle.parity_trees.specs.Works.{IsOnSide, IsDecided}

zeros : (x y z w : ℤ) → pos 0 *ℤ x +ℤ pos 0 *ℤ y +ℤ pos 0 *ℤ z -ℤ pos 0 *ℤ w ≡ pos 0
zeros x y z w =
    let a = zero_left (pos 0) x refl in
    let b = zero_left (pos 0) y refl in
    let c = zero_left (pos 0) z refl in
    let d = zero_left (pos 0) w refl in
    λ i. a i +ℤ b i +ℤ c i -ℤ d i

pub level_is : (o : Option Plane) (q : Point) → level_by o q ≡ value (numbered o) q
level_is None q = sym (zeros q.x q.y q.z q.w)
level_is (Some p) q = refl

pub signs : (v : ℤ) → v ≢ pos 0 → (pos 0 <ℤ v) ⊎ (v <ℤ pos 0)
signs (pos zero) off = absurd (off refl)
signs (pos (suc n)) off = inl (omega (arith, ints))
signs (negsuc n) off = inr (omega (arith, ints))

module _ (planes : List Plane) (steps : List Step) where
  abbrev level : ℕ → Point → ℤ
  level k q = level_by (slice_get planes k) q

  -- a plane that does not cross leaves the cell on one side
  pub front_only_on : (p : PlaneId) → (HasPointBehind planes steps (plane_at planes p) → ⊥) → IsOnSide planes steps (record { plane = p; in_front = true })
  front_only_on p none q i off = elim (signs (level p.k q) off) [
    | inl h ↦ subst (λ v. pos 0 <ℤ v) (level_is (slice_get planes p.k) q) h
    | inr h ↦ absurd (none (record { point = q; in_cell = i; behind = subst (λ v. v <ℤ pos 0) (level_is (slice_get planes p.k) q) h }))
  ]

  pub back_only_on : (p : PlaneId) → (HasPointInFront planes steps (plane_at planes p) → ⊥) → IsOnSide planes steps (record { plane = p; in_front = false })
  back_only_on p none q i off = elim (signs (level p.k q) off) [
    | inl h ↦ absurd (none (record { point = q; in_cell = i; in_front = subst (λ v. pos 0 <ℤ v) (level_is (slice_get planes p.k) q) h }))
    | inr h ↦ opposite_front (plane_at planes p) q (subst (λ v. v <ℤ pos 0) (level_is (slice_get planes p.k) q) h)
  ]

  -- so does a part of a cell
  pub part_on : (s : Step) (cell : Cell) → IsPartCell planes steps s cell → IsOnSide planes cell.steps.items s
  part_on s cell part q i off = ((part.points q).0 i).1

  flag_by : (taken side : Bool) (h : AnyPlane) (q : Point) → pos 0 <ℤ value (kept_side taken h) q → is_in_front (kept_side side h) q ≡ beq side taken
  flag_by true true h q p = sym (kept_in_front true h q (sym (sign_positive (value h q) p)))
  flag_by true false h q p = sym (kept_in_front false h q (sym (sign_positive (value h q) p)))
  flag_by false true h q p = sym (kept_behind true h q (sym (sign_negative (value h q) (from_opposite_front h q p))))
  flag_by false false h q p = sym (kept_behind false h q (sym (sign_negative (value h q) (from_opposite_front h q p))))

  -- a side of a plane beside which the cell lies is decided
  pub on_decided : (taken side : Step) → IsOnSide planes steps taken → side.plane.k ≡ taken.plane.k → IsDecided planes steps side (beq side.in_front taken.in_front)
  on_decided taken side on e q i off =
      ap (λ k. is_in_front (kept_side side.in_front (numbered (slice_get planes k))) q) e
      ∙ flag_by taken.in_front side.in_front (plane_at planes taken.plane) q (on q i (λ z. off (ap (λ k. level k q) e ∙ z)))

  same_true : (b : Bool) → beq b true ≡ b
  same_true true = refl
  same_true false = refl

  same_false : (b : Bool) → beq b false ≡ not b
  same_false true = refl
  same_false false = refl

  pub front_decided : (side : Step) → (HasPointBehind planes steps (plane_at planes side.plane) → ⊥) → IsDecided planes steps side side.in_front
  front_decided side none q i off = on_decided (record { plane = side.plane; in_front = true }) side (front_only_on side.plane none) refl q i off ∙ same_true side.in_front

  pub back_decided : (side : Step) → (HasPointInFront planes steps (plane_at planes side.plane) → ⊥) → IsDecided planes steps side (not side.in_front)
  back_decided side none q i off = on_decided (record { plane = side.plane; in_front = false }) side (back_only_on side.plane none) refl q i off ∙ same_false side.in_front

-- no point lies strictly behind a plane that the book does not have
pub none_behind : (planes : List Plane) (steps : List Step) (p : PlaneId) → slice_get planes p.k ≡ None → HasPointBehind planes steps (plane_at planes p) → ⊥
none_behind planes steps p e b =
    let none : pos 0 <ℤ pos 0 → ⊥ = λ h. omega (arith, ints) in
    none (subst (λ v. v <ℤ pos 0) (ap (λ o. value (numbered o) b.point) e ∙ sym (level_is None b.point)) b.behind)
