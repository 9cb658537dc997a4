use Rattle.std.proofs.Common.{◌*◌, ◌^◌, map}
use Rattle.std.specs.Prelude.{Some, All}
use Rattle.spec_place.specs.Vectors.{IsWithin}
use Rattle.spec_place.specs.Axes.{plane_point}
use Rattle.ix_profile.proofs.Replaced.{AreReplaced}
use Rattle.ix_profile.proofs.place.place_points.Given as goal

abbrev pub invariant-loop-p : goal.invariant-loop-p
invariant-loop-p l = AreReplaced (λ p. plane_point l.at (Some l.axis) p.x p.y) (IsWithin (10 ^ 16)) (IsWithin (3 * 10 ^ 16)) l.fn.points l.points l.p-index
