use Rattle.std.proofs.Common.{◌^◌, map, List}
use Rattle.std.specs.Prelude.{All}
use Rattle.spec_space.specs.declared.Vector.{Vector}
use Rattle.spec_place.specs.Vectors.{IsWithin}
use Rattle.spec_solid.specs.Extrusions.{plus}
use Rattle.ix_profile.proofs.Replaced.{AreReplaced}
use Rattle.solid_expr.proofs.lift.move_points.Given as goal

abbrev pub invariant-loop-p : goal.invariant-loop-p
invariant-loop-p l = AreReplaced {X = Vector} (plus l.by) (IsWithin (2 ^ 59)) (λ v. Unit {0}) l.fn.points l.points l.p-index
