use Rattle.std.proofs.Common.{Some}
use Rattle.std.proofs.lemmas.Result.{IfOk-weaker}
use Rattle.tree_pool.specs.Trees.{Tree}
use Rattle.tree_pool.specs.Pools.{StandsFor}
use Rattle.face_walk.specs.Faces.{IsOfBook, IsTight, AreFacesOn}
use Rattle.face_walk.specs.Works.{IsFit, IsWalked}
use Rattle.face_walk.proofs.Whole.{fit, faces_of_one}
use Rattle.face_walk.proofs.walk.faces_on.Goals as goal

pub returns-clause-faces : goal.returns-clause-faces
returns-clause-faces c =
    let planes = c.args.book.now in
    let pool = c.args.pool.now in
    IfOk-weaker c.walk.result (λ faces. (t : Tree) → StandsFor pool c.args.tree t → IsFit planes t → IsWalked planes t (Some c.args.plane) faces.items)
    (λ faces. (t : Tree) → StandsFor pool c.args.tree t → IsOfBook planes t → IsTight planes t → AreFacesOn planes t c.args.plane faces.items)
    (λ faces walked t stands of_book tight. faces_of_one planes t c.args.plane c.requires.given faces.items (walked t stands (fit planes t c.count-planes.ensures.distinct c.count-planes.ensures.walls of_book tight))) c.walk.ensures.walked
