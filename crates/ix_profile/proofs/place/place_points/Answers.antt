use Rattle.std.proofs.Common.{◌*◌, ◌^◌, map, length, ◌<◌, ◌≤◌, arith}
use Rattle.std.specs.Prelude.{Some, All}
use Rattle.spec_place.specs.Vectors.{IsWithin}
use Rattle.ix_profile.proofs.Replaced.{replaced_start, replaced_here, replaced_step, replaced_all, replaced_done}
use Rattle.ix_profile.proofs.place.place_points.Goals as goal

pub loop-p-init : goal.loop-p-init
loop-p-init c = replaced_start _ _ _ _ c.requires.points

pub placed_point-requires-clause-point : goal.placed_point-requires-clause-point
placed_point-requires-clause-point c = let here : c.loop-p.p-index < length c.loop-p.points = omega arith in replaced_here _ (IsWithin (10 ^ 16)) _ _ _ _ _ here c.loop-p.invariant

pub loop-p-preserved : goal.loop-p-preserved
loop-p-preserved c = let here : c.loop-p.p-index < length c.loop-p.points = omega arith in replaced_step _ (IsWithin (10 ^ 16)) (IsWithin (3 * 10 ^ 16)) _ _ _ _ _ here c.placed_point.ensures.value c.placed_point.ensures.within c.loop-p.invariant

pub returns-clause-value : goal.returns-clause-value
returns-clause-value c = let all : length c.loop-p.points ≤ c.loop-p.p-index = omega arith in replaced_all _ (IsWithin (10 ^ 16)) (IsWithin (3 * 10 ^ 16)) _ _ _ all c.loop-p.invariant

pub returns-clause-within : goal.returns-clause-within
returns-clause-within c = let all : length c.loop-p.points ≤ c.loop-p.p-index = omega arith in replaced_done _ (IsWithin (10 ^ 16)) (IsWithin (3 * 10 ^ 16)) _ _ _ all c.loop-p.invariant
