use Rattle.std.proofs.Common.{◌*◌, ◌^◌, map}
use Rattle.std.specs.Prelude.{Some, All}
use Rattle.spec_place.specs.Vectors.{IsWithin}
use Rattle.spec_place.specs.Axes.{plane_point}
use Rattle.ix_profile.proofs.Replaced.{AreReplaced}
use Rattle.ix_profile.proofs.place.place_loops.Given as goal

abbrev pub invariant-loop-placed : goal.invariant-loop-placed
invariant-loop-placed l = AreReplaced (map (λ p. plane_point l.at (Some l.axis) p.x p.y)) (All (IsWithin (10 ^ 16))) (All (IsWithin (3 * 10 ^ 16))) l.fn.loops l.loops l.placed-index
