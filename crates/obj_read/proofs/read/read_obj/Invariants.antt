use Rattle.std.proofs.Common.{length}
use Rattle.obj_read.specs.Readers.{state_of}
use Rattle.obj_read.proofs.Reading.{IsReadSoFar}
use Rattle.obj_read.proofs.read.read_obj.Given as goal

-- the lines so far are read, and no other page has them
abbrev pub invariant-lines : goal.invariant-lines
invariant-lines l = IsReadSoFar l.bytes l.rest l.lines (state_of l.reader)

abbrev pub decreases-lines : goal.decreases-lines
decreases-lines l = length l.rest
