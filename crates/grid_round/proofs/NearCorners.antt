-- Corners that are near, and the outlines of faces on the grid.
use Rattle.std.proofs.Common.{◌≡◌, ℕ, ◌≤◌, ◌^◌, ◌-◌, true, List, map, unsigned_abs, arith}
use Rattle.std.specs.List.{list_all, All}
use Rattle.std.proofs.lemmas.Bool.{leb-true}
use Rattle.spec_space.specs.declared.Vector.{Vector}
use Rattle.spec_place.specs.Vectors.{IsWithin}
use Rattle.spec_grid.specs.Rounded.{is_near}
use Rattle.ix_profile.specs.Outlines.{IsOutline}
use Rattle.ix_profile.proofs.Outlines.{moved_outline}
use Rattle.ray_law.specs.Ranges.{AreSteps}
use Rattle.grid_round.proofs.Lists.{first_true, second_true, passed}

at_most : (n : ℕ) → n ≤ 2 ^ 20 → n ≤ 2 ^ 62 - 1
at_most n h = omega arith

pub near_steps : (v : Vector) → is_near v ≡ true → AreSteps v
near_steps v e = record {
  x = leb-true (unsigned_abs v.x) (2 ^ 20) (first_true _ _ (first_true _ _ e));
  y = leb-true (unsigned_abs v.y) (2 ^ 20) (second_true _ _ (first_true _ _ e));
  z = leb-true (unsigned_abs v.z) (2 ^ 20) (second_true _ _ e);
}

near_within : (v : Vector) → is_near v ≡ true → IsWithin (2 ^ 62 - 1) v
near_within v e = let s = near_steps v e in record { x = at_most (unsigned_abs v.x) s.x; y = at_most (unsigned_abs v.y) s.y; z = at_most (unsigned_abs v.z) s.z }

loop_within : (l : List Vector) → list_all is_near l ≡ true → All (IsWithin (2 ^ 62 - 1)) l
loop_within l e = passed is_near (IsWithin (2 ^ 62 - 1)) near_within l e

-- near loops are the outline of a face
pub near_outline : (move : Vector → Vector) (loops rounded : List (List Vector)) → rounded ≡ map (map move) loops → list_all (list_all is_near) rounded ≡ true
    → IsOutline (2 ^ 62 - 1) loops → IsOutline (2 ^ 62 - 1) rounded
near_outline move loops rounded e near h =
    moved_outline move (2 ^ 62 - 1) (2 ^ 62 - 1) loops rounded e (passed (list_all is_near) (All (IsWithin (2 ^ 62 - 1))) loop_within rounded near) h
