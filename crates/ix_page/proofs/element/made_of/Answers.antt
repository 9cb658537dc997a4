use Rattle.std.proofs.Common.{◌≤◌, ◌<◌, ◌+◌, ◌*◌, ◌^◌, ◌∙◌, refl, sym, arith}
use Rattle.grid_solid.specs.Bodies.{body_of}
use Rattle.spec_grid.specs.Rounded.{round_element}
use Rattle.solid_expr.specs.Views.{element_of}
use Rattle.world_print.specs.Elements.{element_of as printed_of}
use Rattle.ix_page.proofs.PageLists.{converted_item}
use Rattle.ix_page.proofs.element.made_of.Goals as goal

pub returns-in_ok-mesh-in-Ok-clause-item : goal.returns-in_ok-mesh-in-Ok-clause-item
returns-in_ok-mesh-in-Ok-clause-item c =
    let element = c.args.element.now in
    let solid = c.in-Ok.solid in
    let mesh = c.in_ok-mesh-in-Ok.mesh in
    let made = c.in_ok-mesh-in-Ok.ensures in
    converted_item c.args.step element.number element.frame (round_element c.args.step (element_of element)) (body_of solid) (printed_of mesh)
    c.in-Ok.ensures.value (record { number = made.kept.number_kept; placed = made.kept.frame_kept; print = made.print })

pub returns-in_ok-mesh-in-Ok-clause-mesh : goal.returns-in_ok-mesh-in-Ok-clause-mesh
returns-in_ok-mesh-in-Ok-clause-mesh c =
    let kept = c.in_ok-mesh-in-Ok.ensures.kept in
    record { number = kept.number_kept; kind_kept = kept.kind_kept; step_kept = kept.step_kept }
