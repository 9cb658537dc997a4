use Rattle.obj_text.proofs.Texts.{first_corner_put, first_corner_stopped}
use Rattle.world_print.proofs.Appended.{refused}
use Rattle.obj_text.proofs.faces.put_corners.Goals as goal

pub loop-corners-preserved : goal.loop-corners-preserved
loop-corners-preserved c =
    first_corner_put c.loop-corners.corners.now c.loop-corners.printed.now c.corner-item.result c.page_corner.result
    c.in-len1-up.len_at_least c.in-len1-up-printed.len_at_least c.corner-item.is c.page_corner.ensures c.loop-corners.invariant c.in_ok-put_corner.ensures

pub returns-in_err-put_corner : goal.returns-in_err-put_corner
returns-in_err-put_corner c =
    refused c.from_residual.result c.from_residual.ensures.0
    (first_corner_stopped c.loop-corners.corners.now c.loop-corners.printed.now c.corner-item.result c.page_corner.result
    c.in-len1-up.len_at_least c.in-len1-up-printed.len_at_least c.corner-item.is c.page_corner.ensures c.loop-corners.invariant c.in_err-put_corner.ensures)
