use Rattle.std.proofs.Common.{◌^◌, map, length, List, ◌<◌, ◌≤◌, arith}
use Rattle.std.specs.Prelude.{All}
use Rattle.spec_space.specs.declared.Vector.{Vector}
use Rattle.spec_place.specs.Vectors.{IsWithin}
use Rattle.ix_profile.proofs.Replaced.{replaced_start, replaced_here, replaced_step, replaced_all}
use Rattle.solid_expr.proofs.lift.move_points.Goals as goal

pub loop-p-init : goal.loop-p-init
loop-p-init c = replaced_start _ _ _ _ c.requires.points

pub moved_point-requires-clause-point : goal.moved_point-requires-clause-point
moved_point-requires-clause-point c = let here : c.loop-p.p-index < length c.loop-p.points = omega arith in replaced_here _ (IsWithin (2 ^ 59)) _ _ _ _ _ here c.loop-p.invariant

pub loop-p-preserved : goal.loop-p-preserved
loop-p-preserved c = let here : c.loop-p.p-index < length c.loop-p.points = omega arith in replaced_step _ (IsWithin (2 ^ 59)) (λ v. Unit {0}) _ _ _ _ _ here c.moved_point.ensures tt c.loop-p.invariant

pub returns : goal.returns
returns c = let all : length c.loop-p.points ≤ c.loop-p.p-index = omega arith in replaced_all _ (IsWithin (2 ^ 59)) (λ v. Unit {0}) _ _ _ all c.loop-p.invariant
