use Rattle.std.proofs.Common.{◌^◌, map, length, List, ◌<◌, ◌≤◌, arith}
use Rattle.std.specs.Prelude.{All}
use Rattle.spec_space.specs.declared.Vector.{Vector}
use Rattle.spec_place.specs.Vectors.{IsWithin}
use Rattle.ix_profile.proofs.Replaced.{replaced_start, replaced_here, replaced_step, replaced_all}
use Rattle.solid_expr.proofs.lift.move_loops.Goals as goal

pub loop-moved-init : goal.loop-moved-init
loop-moved-init c = replaced_start _ _ _ _ c.requires.loops

pub move_loop-requires-clause-points : goal.move_loop-requires-clause-points
move_loop-requires-clause-points c = let here : c.loop-moved.moved-index < length c.loop-moved.loops = omega arith in replaced_here _ (All (IsWithin (2 ^ 59))) _ _ _ _ _ here c.loop-moved.invariant

pub loop-moved-preserved : goal.loop-moved-preserved
loop-moved-preserved c = let here : c.loop-moved.moved-index < length c.loop-moved.loops = omega arith in replaced_step _ (All (IsWithin (2 ^ 59))) (λ v. Unit {0}) _ _ _ _ _ here c.move_loop.ensures tt c.loop-moved.invariant

pub returns : goal.returns
returns c = let all : length c.loop-moved.loops ≤ c.loop-moved.moved-index = omega arith in replaced_all _ (All (IsWithin (2 ^ 59))) (λ v. Unit {0}) _ _ _ all c.loop-moved.invariant
