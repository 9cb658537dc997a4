use Rattle.std.proofs.Common.{◌+◌, refl, ap}
use Rattle.world_print.specs.Elements.{element_of}
use Rattle.ix_page.proofs.PageLists.{counts_mesh}
use Rattle.ix_page.proofs.tally.Tally.count_mesh.Goals as goal

pub returns-clause-counts : goal.returns-clause-counts
returns-clause-counts c =
    let t = c.args.self.now in
    let e = element_of c.args.mesh.now in
    let sizes = c.corner_and_face_count-corners.ensures in
    counts_mesh t _ e refl refl refl refl (ap (λ n. t.corners + n) sizes.corners) (ap (λ n. t.faces + n) sizes.faces) refl
