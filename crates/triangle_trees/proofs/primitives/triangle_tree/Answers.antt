use Rattle.std.proofs.Common.{[], ◌∷◌}
use Rattle.std.specs.List.{flat_map}
use Rattle.std.proofs.lemmas.Result.{IfOk-weaker}
use Rattle.std.proofs.lemmas.List.Elements.{All-nil, All-cons}
use Rattle.spec_solid.specs.Planes.{triangle_planes}
use Rattle.ray_law.specs.Shells.{is_covered, is_covered_oddly}
use Rattle.grid_solid.specs.Triangles.{triangle_of, HasForms}
use Rattle.tree_pool.specs.declared.node.TreeId.{TreeId}
use Rattle.tree_pool.specs.Trees.{Tree}
use Rattle.tree_pool.specs.Pools.{StandsFor}
use Rattle.triangle_trees.specs.Forms.{IsTreeOf}
use Rattle.triangle_trees.proofs.Wholes.{triangle_is}
use Rattle.triangle_trees.proofs.primitives.triangle_tree.Goals as goal

pub face_tree-requires-clause-forms : goal.face_tree-requires-clause-forms
face_tree-requires-clause-forms c = All-cons HasForms (triangle_of c.args.t.now) [] c.requires.forms (All-nil HasForms)

pub returns-clause-below : goal.returns-clause-below
returns-clause-below c =
    let planes = c.face_tree.new.book in
    let new = c.face_tree.new.pool in
    let t = triangle_of c.args.t.now in
    IfOk-weaker c.face_tree.result
    (λ (id : TreeId). (tree : Tree) → StandsFor new id tree → IsTreeOf planes (flat_map triangle_planes (t ∷ [])) (is_covered_oddly (t ∷ [])) tree)
    (λ (id : TreeId). (tree : Tree) → StandsFor new id tree → IsTreeOf planes (triangle_planes t) (is_covered t) tree)
    (λ id is tree stands. triangle_is planes t tree (is tree stands))
    c.face_tree.ensures.below
