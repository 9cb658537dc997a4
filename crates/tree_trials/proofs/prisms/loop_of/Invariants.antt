use Rattle.std.proofs.Common.{◌≡◌, ◌^◌, ◌-◌, All, length}
use Rattle.spec_place.specs.Vectors.{IsWithin}
use Rattle.tree_trials.proofs.prisms.loop_of.Given as goal

abbrev pub invariant-loop-place : goal.invariant-loop-place
invariant-loop-place l = (length l.points.items ≡ l.place-index) × All (IsWithin (2 ^ 62 - 1)) l.points.items
