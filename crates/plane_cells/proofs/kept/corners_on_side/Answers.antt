use Rattle.plane_core.specs.Views.{plane_of, raw_point_of}
use Rattle.convex_cycles.specs.Sides.{is_in_front}
use Rattle.poly_frag.specs.Frags.{kept_side}
use Rattle.plane_cells.proofs.Filters.{filter_round}
use Rattle.plane_cells.proofs.kept.corners_on_side.Goals as goal

pub loop-corner-preserved : goal.loop-corner-preserved
loop-corner-preserved c =
    filter_round (λ d. is_in_front (kept_side c.args.in_front (plane_of c.args.plane.now)) (raw_point_of d)) c.args.corners.now c.corner-item.result c.loop-corner.corner-index
    c.loop-corner.kept.items c.push_if_on_side.new.kept.items c.loop-corner-test.true c.corner-item.is c.in_ok-push_if_on_side.ensures.kept c.loop-corner.invariant
