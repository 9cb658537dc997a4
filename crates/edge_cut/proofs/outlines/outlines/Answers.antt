use Rattle.std.proofs.Common.{refl}
use Rattle.edge_cut.specs.declared.sides.Outline.{Outline}
use Rattle.edge_cut.specs.Outlines.{IsOutlineOf}
use Rattle.edge_cut.proofs.Meshed.{zip_next}
use Rattle.edge_cut.proofs.outlines.outlines.Goals as goal

pub loop-face-preserved : goal.loop-face-preserved
loop-face-preserved c =
    let w : Outline = record { support = c.face-item.result.frag.support; front_out = c.face-item.result.front_out; sides = c.in_ok-sides_of.field-0 } in
    zip_next (IsOutlineOf c.args.book.now) c.args.faces.now c.loop-face.face-index c.face-item.result c.loop-face.outlines.items c.push.new.self.items w c.loop-face-test.true c.face-item.is c.in_ok-push.ensures.items
    (record { support = refl; front_out = refl; sides = c.in_ok-sides_of.ensures }) c.loop-face.invariant
