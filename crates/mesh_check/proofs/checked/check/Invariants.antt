use Rattle.mesh_check.proofs.Walked.{IsWalked}
use Rattle.mesh_check.proofs.checked.check.Given as goal

-- the elements of the items so far are sound
abbrev pub invariant-loop-item : goal.invariant-loop-item
invariant-loop-item l = IsWalked l.file.grid l.file.items.items l.item-index l.faces
