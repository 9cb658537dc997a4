use Rattle.std.proofs.Common.{◌≡◌, ◌+◌, ◌<◌, ◌^◌, map, take, length, sym, ap, subst, ◌∙◌, All, Bool, List, arith}
use Rattle.std.proofs.lemmas.Result.{IfOk-weaker}
use Rattle.std.proofs.lemmas.List.Elements.{All-push}
use Rattle.spec_space.specs.declared.Plane.{Plane}
use Rattle.spec_space.specs.declared.Point.{Point}
use Rattle.spec_solid.specs.Planes.{solid_planes}
use Rattle.spec_solid.specs.Solids.{is_inside, is_inside_some}
use Rattle.grid_solid.specs.Shapes.{shape_solid}
use Rattle.grid_solid.specs.Views.{shape_of, solid_of}
use Rattle.grid_solid.proofs.Folds.{shape-Combined}
use Rattle.solid_tree.proofs.Shrinks.{size_of, part_smaller, first_smaller, second_smaller}
use Rattle.tree_pool.specs.declared.node.TreeId.{TreeId}
use Rattle.tree_pool.specs.Pools.{IsLive}
use Rattle.tree_pool.proofs.Laws.{live_kept}
use Rattle.triangle_trees.specs.Forms.{IsGrown}
use Rattle.grid_solid.specs.Counts.{plane_count}
use Rattle.triangle_trees.proofs.Grown.{grown_more}
use Rattle.solid_tree.specs.Unions.{HasTree, HaveTrees, AreUnited}
use Rattle.solid_tree.proofs.Trees.{has_kept}
use Rattle.solid_tree.proofs.Lists.{each_live}
use Rattle.solid_tree.proofs.UnionLaws.{insides, all_united, union_solid, union_count, solid_union, solid_combined, node_union, combined_node}
use Rattle.solid_tree.proofs.Rounds.{planes_in, count_in, room_for, count_most, grown_next, trees_next, all_taken}
use Rattle.solid_tree.proofs.nodes.+node_tree.Goals as goal

pub node_tree-requires-in-loop-part : goal.node_tree-requires-in-loop-part
node_tree-requires-in-loop-part t c =
    let ns = c.as_slice-parts.result.now in
    let count = ap plane_count (solid_union c.args.node.now c.in-Union.parts c.in-Union.is ∙ ap union_solid (sym c.as_slice-parts.ensures)) ∙ union_count ns in
    let k = room_for ns c.loop-part.part-index c.part-item.result c.loop-part-test.true c.part-item.is in
    let m = c.loop-part.invariant.grown.most in
    let r = subst (λ n. length c.args.book.now + n < 2 ^ 31) count c.requires.room in
    let small = part_smaller c.args.node.now c.in-Union.parts ns c.loop-part.part-index c.part-item.result c.in-Union.is c.as_slice-parts.ensures c.loop-part-test.true c.part-item.is in
    let d : size_of (shape_of c.args.node.now) ≡ t = c.decreases in
    (subst (λ n. size_of (shape_of c.part-item.result) < n) d small, omega arith)

pub node_tree-requires : goal.node_tree-requires
node_tree-requires t c =
    let count = ap plane_count (ap solid_of c.in-Combined.is ∙ ap shape_solid (shape-Combined c.in-Combined.operator c.in-Combined.first c.in-Combined.second)) in
    let same : plane_count (solid_of c.get.result.now) ≡ plane_count (solid_of c.in-Combined.first) = ap (λ n. plane_count (solid_of n)) c.get.ensures in
    let r = subst (λ n. length c.args.book.now + n < 2 ^ 31) count c.requires.room in
    let small = first_smaller c.args.node.now c.in-Combined.operator c.in-Combined.first c.in-Combined.second c.get.result.now c.in-Combined.is c.get.ensures in
    let d : size_of (shape_of c.args.node.now) ≡ t = c.decreases in
    (subst (λ n. size_of (shape_of c.get.result.now) < n) d small, omega arith)

pub node_tree-requires-in-Combined : goal.node_tree-requires-in-Combined
node_tree-requires-in-Combined t c =
    let count = ap plane_count (ap solid_of c.in-Combined.is ∙ ap shape_solid (shape-Combined c.in-Combined.operator c.in-Combined.first c.in-Combined.second)) in
    let first : plane_count (solid_of c.get.result.now) ≡ plane_count (solid_of c.in-Combined.first) = ap (λ n. plane_count (solid_of n)) c.get.ensures in
    let second : plane_count (solid_of c.get-in-Combined.result.now) ≡ plane_count (solid_of c.in-Combined.second) = ap (λ n. plane_count (solid_of n)) c.get-in-Combined.ensures in
    let r = subst (λ n. length c.args.book.now + n < 2 ^ 31) count c.requires.room in
    let m = c.node_tree.ensures.grown.most in
    let small = second_smaller c.args.node.now c.in-Combined.operator c.in-Combined.first c.in-Combined.second c.get-in-Combined.result.now c.in-Combined.is c.get-in-Combined.ensures in
    let d : size_of (shape_of c.args.node.now) ≡ t = c.decreases in
    (subst (λ n. size_of (shape_of c.get-in-Combined.result.now) < n) d small, omega arith)

pub returns-in_err-tree-in-Union-clause-grown : goal.returns-in_err-tree-in-Union-clause-grown
returns-in_err-tree-in-Union-clause-grown t c =
    let ns = c.as_slice-parts.result.now in
    let i = c.loop-part.part-index in
    let count = ap plane_count (solid_union c.args.node.now c.in-Union.parts c.in-Union.is ∙ ap union_solid (sym c.as_slice-parts.ensures)) ∙ union_count ns in
    subst (λ n. IsGrown n c.args.book.now c.node_tree-in-loop-part.new.book) (sym count)
    (grown_more (count_in (take (i + 1) ns)) (count_in ns) c.args.book.now c.node_tree-in-loop-part.new.book (count_most ns (i + 1))
    (grown_next ns i c.part-item.result c.loop-part-test.true c.part-item.is c.args.book.now c.loop-part.book c.node_tree-in-loop-part.new.book c.loop-part.invariant.grown c.node_tree-in-loop-part.ensures.grown))

pub returns-in_err-push-in-Union-clause-grown : goal.returns-in_err-push-in-Union-clause-grown
returns-in_err-push-in-Union-clause-grown t c =
    let ns = c.as_slice-parts.result.now in
    let i = c.loop-part.part-index in
    let count = ap plane_count (solid_union c.args.node.now c.in-Union.parts c.in-Union.is ∙ ap union_solid (sym c.as_slice-parts.ensures)) ∙ union_count ns in
    subst (λ n. IsGrown n c.args.book.now c.node_tree-in-loop-part.new.book) (sym count)
    (grown_more (count_in (take (i + 1) ns)) (count_in ns) c.args.book.now c.node_tree-in-loop-part.new.book (count_most ns (i + 1))
    (grown_next ns i c.part-item.result c.loop-part-test.true c.part-item.is c.args.book.now c.loop-part.book c.node_tree-in-loop-part.new.book c.loop-part.invariant.grown c.node_tree-in-loop-part.ensures.grown))

pub loop-part-preserved : goal.loop-part-preserved
loop-part-preserved t c =
    let ns = c.as_slice-parts.result.now in
    let i = c.loop-part.part-index in
    let n = c.part-item.result in
    let h = c.loop-part-test.true in
    let e = c.part-item.is in
    let old = c.loop-part.book in
    let new = c.node_tree-in-loop-part.new.book in
    let before = c.loop-part.pool in
    let after = c.node_tree-in-loop-part.new.pool in
    let ids = c.loop-part.trees.items in
    let id = c.in_ok-tree-in-Union.tree in
    let call = c.node_tree-in-loop-part in
    let still = live_kept before after c.loop-part.invariant.ok call.ensures.trees call.ensures.kept in
    record {
      trees = subst (HaveTrees after new (planes_in ns) (insides (take (i + 1) ns))) (sym c.in_ok-push-in-Union.ensures.items)
          (trees_next (plane_count (solid_of n)) ns i n h e old new before after call.ensures.grown call.ensures.kept ids id c.loop-part.invariant.trees c.in_ok-tree-in-Union.ensures.inside);
      live = subst (All (IsLive after)) (sym c.in_ok-push-in-Union.ensures.items) (All-push (IsLive after) ids id (each_live before after still ids c.loop-part.invariant.live) c.in_ok-tree-in-Union.ensures.live);
      grown = grown_next ns i n h e c.args.book.now old new c.loop-part.invariant.grown call.ensures.grown;
      kept = λ id t s. call.ensures.kept id t (c.loop-part.invariant.kept id t s);
      ok = call.ensures.trees;
    }

pub returns-in_ok-second-in-Combined-clause-inside : goal.returns-in_ok-second-in-Combined-clause-inside
returns-in_ok-second-in-Combined-clause-inside t c =
    let node = c.args.node.now in
    let f = c.get.result.now in
    let s = c.get-in-Combined.result.now in
    let book = c.node_tree.new.book in
    let planes = c.node_tree-in-Combined.new.book in
    let before = c.node_tree.new.pool in
    let old = c.node_tree-in-Combined.new.pool in
    let first = c.in_ok-first-in-Combined.first in
    let whole = solid_combined node c.in-Combined.operator c.in-Combined.first c.in-Combined.second f s c.in-Combined.is c.get.ensures c.get-in-Combined.ensures in
    combined_node old c.combined.new.pool planes node f s c.in-Combined.operator first c.in_ok-second-in-Combined.second c.combined.result whole
    (has_kept (plane_count (solid_of s)) book planes before old c.node_tree-in-Combined.ensures.grown c.node_tree-in-Combined.ensures.kept (solid_planes (solid_of f)) (is_inside (solid_of f)) first c.in_ok-first-in-Combined.ensures.inside)
    c.in_ok-second-in-Combined.ensures.inside
    c.combined.ensures.combined

pub returns-after-loop-part-clause-inside : goal.returns-after-loop-part-clause-inside
returns-after-loop-part-clause-inside t c =
    let node = c.args.node.now in
    let ns = c.as_slice-parts.result.now in
    let pool = c.loop-part.pool in
    let book = c.loop-part.book in
    let ids = c.loop-part.trees.items in
    let new = c.united.new.pool in
    let whole = solid_union node c.in-Union.parts c.in-Union.is ∙ ap union_solid (sym c.as_slice-parts.ensures) in
    let have = subst (λ ms. HaveTrees pool book (planes_in ns) (insides ms) ids) (all_taken ns c.loop-part.part-index (omega arith)) c.loop-part.invariant.trees in
    IfOk-weaker c.united.result
    (λ (id : TreeId). (ks : List Plane) (p : Point → Bool) → AreUnited pool book ks p ids → HasTree new book ks p id)
    (HasTree new book (solid_planes (solid_of node)) (is_inside (solid_of node)))
    (λ id made. node_union new book node ns id whole (made (planes_in ns) (is_inside_some (map solid_of ns)) (all_united pool book ns ids have)))
    c.united.ensures.united

pub returns-after-loop-part-clause-grown : goal.returns-after-loop-part-clause-grown
returns-after-loop-part-clause-grown t c =
    let ns = c.as_slice-parts.result.now in
    let i = c.loop-part.part-index in
    let count = ap plane_count (solid_union c.args.node.now c.in-Union.parts c.in-Union.is ∙ ap union_solid (sym c.as_slice-parts.ensures)) ∙ union_count ns in
    subst (λ n. IsGrown n c.args.book.now c.loop-part.book) (sym count)
    (grown_more (count_in (take i ns)) (count_in ns) c.args.book.now c.loop-part.book (count_most ns i) c.loop-part.invariant.grown)
