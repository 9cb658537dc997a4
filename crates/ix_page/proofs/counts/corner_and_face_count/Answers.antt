use Rattle.std.proofs.Common.{arith}
use Rattle.ix_page.proofs.PageLists.{length-page_corners}
use Rattle.ix_page.proofs.counts.corner_and_face_count.Goals as goal

pub returns-clause-corners : goal.returns-clause-corners
returns-clause-corners c =
    let mesh = c.args.mesh.now in
    let count = length-page_corners mesh.mesh.corners.items mesh.printed.items in
    let paired = mesh.paired in
    omega (arith, count, paired)
