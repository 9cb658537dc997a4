use Rattle.ix_convert.proofs.Named.{text_built}
use Rattle.ix_convert.proofs.building.take_text.Goals as goal

pub returns : goal.returns
returns g c =
    let d = goal.MeshWriter-dyn g c.args.writer.now in
    text_built (d.view c.args.writer.now.1) (d.view c.take_meshes.new.writer) _ _ c.text.result.now c.args.page.now.items c.extend_from_slice.new.self.items
    c.in_ok-tally.tally c.in_ok-tally.ensures.taken c.take_meshes.ensures.texts c.text.ensures c.requires c.in_ok-extend_from_slice.ensures.items
