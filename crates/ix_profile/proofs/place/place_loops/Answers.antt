use Rattle.std.proofs.Common.{◌*◌, ◌^◌, map, length, ◌<◌, ◌≤◌, arith}
use Rattle.std.specs.Prelude.{Some, All}
use Rattle.spec_place.specs.Vectors.{IsWithin}
use Rattle.ix_profile.proofs.Replaced.{replaced_start, replaced_here, replaced_step, replaced_all, replaced_done}
use Rattle.ix_profile.proofs.place.place_loops.Goals as goal

pub loop-placed-init : goal.loop-placed-init
loop-placed-init c = replaced_start _ _ _ _ c.requires.loops

pub place_loop-requires-clause-points : goal.place_loop-requires-clause-points
place_loop-requires-clause-points c = let here : c.loop-placed.placed-index < length c.loop-placed.loops = omega arith in replaced_here _ (All (IsWithin (10 ^ 16))) _ _ _ _ _ here c.loop-placed.invariant

pub loop-placed-preserved : goal.loop-placed-preserved
loop-placed-preserved c = let here : c.loop-placed.placed-index < length c.loop-placed.loops = omega arith in replaced_step _ (All (IsWithin (10 ^ 16))) (All (IsWithin (3 * 10 ^ 16))) _ _ _ _ _ here c.place_loop.ensures.value c.place_loop.ensures.within c.loop-placed.invariant

pub returns-clause-value : goal.returns-clause-value
returns-clause-value c = let all : length c.loop-placed.loops ≤ c.loop-placed.placed-index = omega arith in replaced_all _ (All (IsWithin (10 ^ 16))) (All (IsWithin (3 * 10 ^ 16))) _ _ _ all c.loop-placed.invariant

pub returns-clause-within : goal.returns-clause-within
returns-clause-within c = let all : length c.loop-placed.loops ≤ c.loop-placed.placed-index = omega arith in replaced_done _ (All (IsWithin (10 ^ 16))) (All (IsWithin (3 * 10 ^ 16))) _ _ _ all c.loop-placed.invariant
