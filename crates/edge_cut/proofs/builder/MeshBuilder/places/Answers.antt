use Rattle.std.proofs.Common.{◌∷◌, [], length, sym, subst, ◌∙◌}
use Rattle.edge_cut.specs.Rounds.{corners_of}
use Rattle.edge_cut.proofs.Places.{at_next, grown_next}
use Rattle.edge_cut.proofs.FirstUse.{names_append}
use Rattle.exact_mesh.specs.Order.{NamesNext}
use Rattle.edge_cut.proofs.builder.MeshBuilder.places.Goals as goal

pub loop-corner-preserved : goal.loop-corner-preserved
loop-corner-preserved c =
    let old = corners_of c.loop-corner.self in
    let new = corners_of c.place.new.self in
    record {
      at = at_next old new c.loop-corner.places.items c.push.new.self.items c.args.around.now c.loop-corner.corner-index c.in_ok-place.field-0 c.corner-item.result
          c.loop-corner-test.true c.corner-item.is c.in_ok-place.ensures.grown c.in_ok-place.ensures.at c.in_ok-push.ensures.items c.loop-corner.invariant.at;
      grown = grown_next (corners_of c.args.self.now) old new c.loop-corner.invariant.grown c.in_ok-place.ensures.grown;
      next = subst (λ ps. NamesNext (length (corners_of c.args.self.now)) ps (length new)) (sym c.in_ok-push.ensures.items)
          (names_append c.loop-corner.places.items (c.in_ok-place.field-0 ∷ []) (length (corners_of c.args.self.now)) (length old) (length new) c.loop-corner.invariant.next c.in_ok-place.ensures.next);
      faces = c.in_ok-place.ensures.faces ∙ c.loop-corner.invariant.faces;
    }
