use Rattle.std.proofs.Common.{◌<◌, ◌+◌, ◌^◌, map, length, sym, subst}
use Rattle.std.specs.List.{All, flat_map}
use Rattle.std.proofs.lemmas.Result.{IfOk-weaker}
use Rattle.spec_solid.specs.Planes.{triangle_planes, solid_planes}
use Rattle.spec_solid.specs.Solids.{is_inside}
use Rattle.ray_law.specs.Shells.{is_covered_oddly}
use Rattle.grid_solid.specs.Triangles.{triangle_of, HasForms}
use Rattle.grid_solid.specs.Views.{solid_of}
use Rattle.tree_pool.specs.declared.node.TreeId.{TreeId}
use Rattle.tree_pool.specs.Trees.{Tree}
use Rattle.tree_pool.specs.Pools.{StandsFor}
use Rattle.triangle_trees.specs.Forms.{IsGrown, IsTreeOf}
use Rattle.triangle_trees.proofs.Wholes.{node_is, node_count}
use Rattle.triangle_trees.proofs.primitives.primitive_tree.Goals as goal

pub face_tree-requires-clause-forms : goal.face_tree-requires-clause-forms
face_tree-requires-clause-forms c = subst (λ xs. All HasForms (map triangle_of xs)) (sym c.as_slice.ensures) c.in-Shell.shell.forms

pub face_tree-requires-clause-room : goal.face_tree-requires-clause-room
face_tree-requires-clause-room c = subst (λ n. length c.args.book.now + n < 2 ^ 31) (node_count c.args.node.now c.in-Shell.shell c.as_slice.result.now c.in-Shell.is c.as_slice.ensures) c.requires.room

pub returns-in-Shell-clause-inside : goal.returns-in-Shell-clause-inside
returns-in-Shell-clause-inside c =
    let planes = c.face_tree.new.book in
    let new = c.face_tree.new.pool in
    let xs = c.as_slice.result.now in
    let node = c.args.node.now in
    IfOk-weaker c.face_tree.result
    (λ (id : TreeId). (tree : Tree) → StandsFor new id tree → IsTreeOf planes (flat_map triangle_planes (map triangle_of xs)) (is_covered_oddly (map triangle_of xs)) tree)
    (λ (id : TreeId). (tree : Tree) → StandsFor new id tree → IsTreeOf planes (solid_planes (solid_of node)) (is_inside (solid_of node)) tree)
    (λ id is tree stands. node_is planes node c.in-Shell.shell xs tree c.in-Shell.is c.as_slice.ensures (is tree stands))
    c.face_tree.ensures.below

pub returns-in-Shell-clause-grown : goal.returns-in-Shell-clause-grown
returns-in-Shell-clause-grown c =
    subst (λ n. IsGrown n c.args.book.now c.face_tree.new.book) (sym (node_count c.args.node.now c.in-Shell.shell c.as_slice.result.now c.in-Shell.is c.as_slice.ensures)) c.face_tree.ensures.grown
