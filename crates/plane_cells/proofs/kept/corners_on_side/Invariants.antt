use Rattle.std.proofs.Common.{◌≡◌, ◌++◌, drop}
use Rattle.std.specs.Prelude.{filter}
use Rattle.plane_core.specs.Views.{plane_of, raw_point_of}
use Rattle.convex_cycles.specs.Sides.{is_in_front}
use Rattle.poly_frag.specs.Frags.{kept_side}
use Rattle.plane_cells.proofs.kept.corners_on_side.Given as goal

-- the corners so far and those to come
abbrev pub invariant-loop-corner : goal.invariant-loop-corner
invariant-loop-corner l =
    l.kept.items ++ filter (λ c. is_in_front (kept_side l.in_front (plane_of l.plane)) (raw_point_of c)) (drop l.corner-index l.corners)
    ≡ filter (λ c. is_in_front (kept_side l.in_front (plane_of l.plane)) (raw_point_of c)) l.corners
