use Rattle.std.proofs.Common.{◌≡◌, drop}
use Rattle.face_check.specs.Sound.{are_behind}
use Rattle.face_check.proofs.edges.are_behind.Given as goal

-- those that are left decide
abbrev pub invariant-loop-place : goal.invariant-loop-place
invariant-loop-place l = are_behind l.corners l.plane (drop l.place-index l.places) ≡ are_behind l.corners l.plane l.places
