-- That elements are counted has one proof at most.
use Rattle.std.specs.Prelude.{ℕ, ◌+◌, List, [], ◌∷◌, length}
use Rattle.std.proofs.Math.Nat.{ℕ_set}
use mathlib.Core.HLevel.{×_prop, Unit-prop}
use Rattle.obj_file.specs.Files.{AreCounted}
use Rattle.obj_file.specs.declared.item.ObjItem.{ObjItem}
use Rattle.obj_file.specs.declared.item.ObjItem.TheVariants as read

pub AreCounted-prop : (before : ℕ) (is : List ObjItem) → IsProp (AreCounted before is)
AreCounted-prop before [] = Unit-prop
AreCounted-prop before (read.Printed e ∷ is) = ×_prop (ℕ_set _ _) (AreCounted-prop (before + length e.corners.items) is)
AreCounted-prop before (read.Skipped n ∷ is) = AreCounted-prop before is
AreCounted-prop before (read.Refused n why ∷ is) = AreCounted-prop before is
