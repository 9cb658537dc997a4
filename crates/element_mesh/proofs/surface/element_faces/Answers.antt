use Rattle.std.proofs.lemmas.Result.{IfOk-weaker}
use Rattle.grid_solid.specs.Bodies.{body_of}
use Rattle.face_walk.specs.Faces.{AreFacesOf, IsOfBook, IsTight}
use Rattle.tree_pool.specs.Trees.{Tree}
use Rattle.tree_pool.specs.Pools.{StandsFor}
use Rattle.element_mesh.specs.Surfaces.{AreFacesOfBody}
use Rattle.element_mesh.proofs.Made.{faces_of_tree}
use Rattle.element_mesh.proofs.surface.element_faces.Goals as goal

pub returns : goal.returns
returns c =
    let planes = c.solid_tree.new.book in
    let pool = c.solid_tree.new.pool in
    let tree = c.in_ok-tree.tree in
    let body = body_of c.args.solid.now in
    IfOk-weaker c.all_faces.result
    (λ faces. (t : Tree) → StandsFor pool tree t → IsOfBook planes t → IsTight planes t → AreFacesOf planes t faces.items)
    (λ faces. AreFacesOfBody planes body faces.items)
    (λ faces are. faces_of_tree planes body pool tree faces.items c.count-planes.ensures.distinct c.solid_tree.ensures.trees c.in_ok-tree.ensures.live c.in_ok-tree.ensures.means c.in_ok-tree.ensures.tight are)
    c.all_faces.ensures.faces
