use Rattle.std.proofs.Common.{◌≡◌, drop}
use Rattle.spec_geometry.specs.Placements.{frame_after}
use Rattle.ifc_axes.proofs.placements.world_frame.Given as goal

-- the frame so far, then each of those that are left, is the frame of all
abbrev pub invariant-loop-link : goal.invariant-loop-link
invariant-loop-link l = frame_after l.frame (drop l.link-index l.rest) ≡ frame_after l.initial.frame l.rest
