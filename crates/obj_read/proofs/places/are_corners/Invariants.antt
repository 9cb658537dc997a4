use Rattle.std.proofs.Common.{◌≡◌, drop}
use Rattle.std.specs.List.{list_all}
use Rattle.obj_read.specs.States.{is_corner}
use Rattle.obj_read.proofs.places.are_corners.Given as goal

-- what is left decides
abbrev pub invariant-loop-index : goal.invariant-loop-index
invariant-loop-index l = list_all (is_corner l.before l.corners) (drop l.index-index l.indices) ≡ list_all (is_corner l.before l.corners) l.indices
