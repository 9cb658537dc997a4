use Rattle.std.proofs.Common.{◌≡◌, ℕ, ℤ, List, refl, sym, ap, ap₂, subst, map, ◌∙◌}
use Rattle.spec_num.specs.Words.{within_128_bits}
use Rattle.spec_place.specs.declared.transform.Transform.{Transform}
use Rattle.spec_place.specs.Transforms.{IsFrame}
use Rattle.spec_page.specs.Element.{Element}
use Rattle.plane_core.specs.declared.numbers.Corner.{Corner}
use Rattle.exact_mesh.specs.Meshes.{face_of, mesh_volume}
use Rattle.exact_mesh.specs.Ranges.{AreNear}
use Rattle.exact_mesh.proofs.Prints.{printed_volume_is}
use Rattle.world_print.specs.Elements.{page_corners}
use Rattle.world_print.proofs.Prints.{image_in, ArePrinted, same_length, all_printable, are_near, printed_corners, each_rounded, each_within}
use Rattle.world_print.proofs.finished.finish.Goals as goal

-- the corners of the mesh were printed in its frame
printed_in : (frame inside : Transform) (step : ℕ) (corners now : List Corner) (printed : List (List ℤ)) → inside ≡ frame → now ≡ corners → ArePrinted (image_in inside step) now printed → ArePrinted (image_in frame step) corners printed
printed_in frame inside step corners now printed e f p = subst (λ t. ArePrinted (image_in t step) corners printed) e (subst (λ cs. ArePrinted (image_in inside step) cs printed) f p)

pub sixfold-six-requires-clause-near : goal.sixfold-six-requires-clause-near
sixfold-six-requires-clause-near c =
    let vs = c.in_ok-printed.printed.items in
    let printed = printed_in c.args.frame c.frame.inside.transform c.args.step c.args.mesh.corners.items c.deref.result.now vs c.frame.view_is c.deref.ensures.value c.in_ok-printed.ensures in
    subst AreNear (sym c.deref-2.ensures.value)
    (are_near c.args.frame c.args.step (subst IsFrame c.frame.view_is c.frame.invariant) c.requires.step c.args.mesh.corners.items vs printed c.requires.reach)

pub invariant_of-result : goal.invariant_of-result
invariant_of-result c =
    let vs = c.in_ok-printed.printed.items in
    let printed = printed_in c.args.frame c.frame.inside.transform c.args.step c.args.mesh.corners.items c.deref.result.now vs c.frame.view_is c.deref.ensures.value c.in_ok-printed.ensures in
    record {
      step_range = c.requires.step;
      paired = same_length (image_in c.args.frame c.args.step) c.args.mesh.corners.items vs printed;
      printable = all_printable c.args.frame c.args.step (subst IsFrame c.frame.view_is c.frame.invariant) c.requires.step c.args.mesh.corners.items vs printed c.requires.reach;
      places = c.requires.places;
    }

pub returns-clause-printed : goal.returns-clause-printed
returns-clause-printed c =
    printed_in c.args.frame c.frame.inside.transform c.args.step c.args.mesh.corners.items c.deref.result.now c.in_ok-printed.printed.items c.frame.view_is c.deref.ensures.value c.in_ok-printed.ensures

pub returns-clause-rounded : goal.returns-clause-rounded
returns-clause-rounded c =
    each_rounded c.args.frame c.args.step c.args.mesh.corners.items c.in_ok-printed.printed.items
    (printed_in c.args.frame c.frame.inside.transform c.args.step c.args.mesh.corners.items c.deref.result.now c.in_ok-printed.printed.items c.frame.view_is c.deref.ensures.value c.in_ok-printed.ensures)

pub returns-clause-frame : goal.returns-clause-frame
returns-clause-frame c = subst IsFrame c.frame.view_is c.frame.invariant

pub returns-clause-corners : goal.returns-clause-corners
returns-clause-corners c =
    let vs = c.in_ok-printed.printed.items in
    let printed = printed_in c.args.frame c.frame.inside.transform c.args.step c.args.mesh.corners.items c.deref.result.now vs c.frame.view_is c.deref.ensures.value c.in_ok-printed.ensures in
    each_within c.args.mesh.corners.items vs c.requires.reach
    (all_printable c.args.frame c.args.step (subst IsFrame c.frame.view_is c.frame.invariant) c.requires.step c.args.mesh.corners.items vs printed c.requires.reach)

pub returns-clause-volume : goal.returns-clause-volume
returns-clause-volume c =
    let cs = c.args.mesh.corners.items in
    let vs = c.in_ok-printed.printed.items in
    let printed = printed_in c.args.frame c.frame.inside.transform c.args.step cs c.deref.result.now vs c.frame.view_is c.deref.ensures.value c.in_ok-printed.ensures in
    let e : Element = record { number = c.args.number; frame = c.args.frame; corners = page_corners cs vs; faces = map face_of c.args.mesh.faces.items; six = c.sixfold-six.result } in
    c.sixfold-six.ensures ∙ ap₂ (λ ps fs. within_128_bits (mesh_volume ps fs)) c.deref-2.ensures.value c.deref-3.ensures.value
    ∙ ap within_128_bits (sym (printed_volume_is e vs c.args.mesh.faces.items (printed_corners cs vs (same_length (image_in c.args.frame c.args.step) cs vs printed)) refl))
