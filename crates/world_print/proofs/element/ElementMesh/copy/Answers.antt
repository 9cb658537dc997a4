use Rattle.std.proofs.Common.{◌≡◌, ◌<◌, length, All, ap, sym, subst, ◌∙◌}
use Rattle.world_print.specs.Ranges.{IsPrintable}
use Rattle.world_print.proofs.Copies.{places_copied}
use Rattle.world_print.proofs.element.ElementMesh.copy.Goals as goal

pub invariant_of-result : goal.invariant_of-result
invariant_of-result c =
    let self = c.args.self.now in
    let copy = c.in_ok-copied_mesh.field-0 in
    let corners = c.in_ok-copied_mesh.ensures.corners in
    let printed : c.extend_from_slice.new.self.items ≡ self.printed.items = cc (c.in_ok-extend_from_slice.ensures.items, c.new-printed.ensures.items, c.deref.ensures.value) in
    record {
      step_range = self.step_range;
      paired = ap length printed ∙ self.paired ∙ ap length (sym corners);
      printable = subst (All IsPrintable) (sym printed) self.printable;
      places =
          places_copied (length copy.corners.items) copy.faces.items self.mesh.faces.items c.in_ok-copied_mesh.ensures.faces
          (subst (λ n. All (λ f. All (λ i. i < n) f.corners.items) self.mesh.faces.items) (ap length (sym corners)) self.places);
    }
