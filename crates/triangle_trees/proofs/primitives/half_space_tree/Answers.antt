use Rattle.std.proofs.Common.{not, List, [], ◌∷◌}
use Rattle.std.proofs.lemmas.Result.{IfOk-weaker}
use Rattle.spec_solid.specs.Solids.{HalfSpace, is_inside}
use Rattle.plane_core.specs.Views.{plane_of}
use Rattle.tree_pool.specs.declared.node.TreeId.{TreeId}
use Rattle.tree_pool.specs.Trees.{Tree, leaf, IsTreeOver}
use Rattle.tree_pool.specs.Pools.{StandsFor}
use Rattle.triangle_trees.specs.Forms.{IsTreeOf}
use Rattle.triangle_trees.proofs.Wholes.{half_space_is}
use Rattle.triangle_trees.proofs.primitives.half_space_tree.Goals as goal

pub returns-clause-inside : goal.returns-clause-inside
returns-clause-inside c =
    let old = c.args.pool.now in
    let new = c.node.new.self in
    let planes = c.add.new.self in
    let p = c.args.plane in
    let number = c.in_ok-number.number in
    IfOk-weaker c.node.result
    (λ (id : TreeId). (f : Tree) (g : Tree) (t : Tree) → StandsFor old c.leaf-front.result f → StandsFor old c.leaf-back.result g → StandsFor new id t → IsTreeOver number.k f g t)
    (λ (id : TreeId). (tree : Tree) → StandsFor new id tree → IsTreeOf planes (plane_of p ∷ []) (is_inside (HalfSpace (plane_of p) c.args.in_front)) tree)
    (λ id over tree stands. half_space_is planes p c.args.in_front number.k c.in_ok-number.ensures.number tree
    (over (leaf c.args.in_front) (leaf (not c.args.in_front)) tree c.leaf-front.ensures.stands c.leaf-back.ensures.stands stands))
    c.node.ensures.over
