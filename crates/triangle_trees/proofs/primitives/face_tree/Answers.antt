use Rattle.std.proofs.Common.{map}
use Rattle.std.specs.List.{flat_map}
use Rattle.std.proofs.lemmas.Result.{IfOk-weaker}
use Rattle.spec_solid.specs.Planes.{triangle_planes}
use Rattle.ray_law.specs.Shells.{is_covered_oddly}
use Rattle.grid_solid.specs.Triangles.{triangle_of}
use Rattle.tree_pool.specs.declared.node.TreeId.{TreeId}
use Rattle.tree_pool.specs.Trees.{Tree}
use Rattle.tree_pool.specs.Pools.{StandsFor}
use Rattle.parity_trees.specs.Regions.{IsParityOf}
use Rattle.triangle_trees.specs.Forms.{IsTreeOf}
use Rattle.triangle_trees.proofs.Wholes.{face_is}
use Rattle.triangle_trees.proofs.primitives.face_tree.Goals as goal

pub returns-clause-below : goal.returns-clause-below
returns-clause-below c =
    let planes = c.regions_below.new.book in
    let new = c.parity_tree.new.pool in
    let ts = map triangle_of c.args.triangles.now in
    let rs = c.in_ok-regions.regions.items in
    IfOk-weaker c.parity_tree.result
    (λ (id : TreeId). (t : Tree) → StandsFor new id t → IsParityOf planes rs t)
    (λ (id : TreeId). (tree : Tree) → StandsFor new id tree → IsTreeOf planes (flat_map triangle_planes ts) (is_covered_oddly ts) tree)
    (λ id parity tree stands. face_is planes ts rs tree c.in_ok-regions.ensures.regions (parity tree stands))
    c.parity_tree.ensures.parity
