use Rattle.std.proofs.Common.{◌≡◌, drop, map}
use Rattle.exact_mesh.specs.Meshes.{face_of}
use Rattle.face_check.specs.Sound.{is_sound, first_not}
use Rattle.face_check.proofs.faces.first_unsound.Given as goal

-- the first of those that are left is the first of all
abbrev pub invariant-loop-i : goal.invariant-loop-i
invariant-loop-i l = first_not (is_sound l.corners) l.i (map face_of (drop l.i l.faces)) ≡ first_not (is_sound l.corners) 0 (map face_of l.faces)
