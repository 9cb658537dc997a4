use Rattle.std.proofs.Common.{◌≡◌, drop}
use Rattle.world_print.specs.Elements.{page_corners}
use Rattle.face_check.specs.Sound.{first_not}
use Rattle.mesh_check.specs.Near.{is_near}
use Rattle.mesh_check.proofs.images.first_far.Given as goal

-- the first of those that are left is the first of all
abbrev pub invariant-loop-i : goal.invariant-loop-i
invariant-loop-i l = first_not (is_near l.frame l.step) l.i (page_corners (drop l.i l.corners) (drop l.i l.printed)) ≡ first_not (is_near l.frame l.step) 0 (page_corners l.corners l.printed)
