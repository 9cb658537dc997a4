use Rattle.std.proofs.Common.{◌≡◌, ◌++◌, take, drop}
use Rattle.obj_read.specs.States.{places_of}
use Rattle.obj_read.proofs.places.to_places.Given as goal

-- those so far are places, and the others are as they were
abbrev pub invariant-loop-index : goal.invariant-loop-index
invariant-loop-index l = l.indices ≡ places_of l.before (take l.index-index l.fn.indices) ++ drop l.index-index l.fn.indices
