use Rattle.std.proofs.Common.{◌+◌, map, take, sym, subst, All, Bool, List, arith}
use Rattle.std.proofs.lemmas.Result.{IfOk-weaker}
use Rattle.std.proofs.lemmas.List.Elements.{All-push}
use Rattle.spec_space.specs.declared.Plane.{Plane}
use Rattle.spec_space.specs.declared.Point.{Point}
use Rattle.spec_solid.specs.Solids.{is_inside_some}
use Rattle.grid_solid.specs.Views.{solid_of}
use Rattle.tree_pool.specs.declared.node.TreeId.{TreeId}
use Rattle.tree_pool.specs.Pools.{IsLive}
use Rattle.tree_pool.proofs.Laws.{live_kept}
use Rattle.grid_solid.specs.Counts.{plane_count}
use Rattle.triangle_trees.proofs.Grown.{grown_more}
use Rattle.solid_tree.specs.Unions.{HasTree, HaveTrees, AreUnited}
use Rattle.solid_tree.proofs.Lists.{each_live}
use Rattle.solid_tree.proofs.UnionLaws.{insides, all_united}
use Rattle.solid_tree.proofs.Rounds.{planes_in, count_in, room_for, count_most, grown_next, trees_next, all_taken}
use Rattle.solid_tree.proofs.nodes.union_tree.Goals as goal

pub node_tree-requires : goal.node_tree-requires
node_tree-requires c =
    let k = room_for c.args.nodes.now c.loop-node.node-index c.node-item.result c.loop-node-test.true c.node-item.is in
    let m = c.loop-node.invariant.grown.most in
    let r = c.requires.room in
    record { room = omega arith }

pub returns-in_err-tree-clause-grown : goal.returns-in_err-tree-clause-grown
returns-in_err-tree-clause-grown c =
    let ns = c.args.nodes.now in
    let i = c.loop-node.node-index in
    grown_more (count_in (take (i + 1) ns)) (count_in ns) c.args.book.now c.node_tree.new.book (count_most ns (i + 1))
    (grown_next ns i c.node-item.result c.loop-node-test.true c.node-item.is c.args.book.now c.loop-node.book c.node_tree.new.book c.loop-node.invariant.grown c.node_tree.ensures.grown)

pub returns-in_err-push-clause-grown : goal.returns-in_err-push-clause-grown
returns-in_err-push-clause-grown c =
    let ns = c.args.nodes.now in
    let i = c.loop-node.node-index in
    grown_more (count_in (take (i + 1) ns)) (count_in ns) c.args.book.now c.node_tree.new.book (count_most ns (i + 1))
    (grown_next ns i c.node-item.result c.loop-node-test.true c.node-item.is c.args.book.now c.loop-node.book c.node_tree.new.book c.loop-node.invariant.grown c.node_tree.ensures.grown)

pub loop-node-preserved : goal.loop-node-preserved
loop-node-preserved c =
    let ns = c.args.nodes.now in
    let i = c.loop-node.node-index in
    let n = c.node-item.result in
    let h = c.loop-node-test.true in
    let e = c.node-item.is in
    let old = c.loop-node.book in
    let new = c.node_tree.new.book in
    let before = c.loop-node.pool in
    let after = c.node_tree.new.pool in
    let ids = c.loop-node.trees.items in
    let id = c.in_ok-tree.tree in
    let still = live_kept before after c.loop-node.invariant.ok c.node_tree.ensures.trees c.node_tree.ensures.kept in
    record {
      trees = subst (HaveTrees after new (planes_in ns) (insides (take (i + 1) ns))) (sym c.in_ok-push.ensures.items)
          (trees_next (plane_count (solid_of n)) ns i n h e old new before after c.node_tree.ensures.grown c.node_tree.ensures.kept ids id c.loop-node.invariant.trees c.in_ok-tree.ensures.inside);
      live = subst (All (IsLive after)) (sym c.in_ok-push.ensures.items) (All-push (IsLive after) ids id (each_live before after still ids c.loop-node.invariant.live) c.in_ok-tree.ensures.live);
      grown = grown_next ns i n h e c.args.book.now old new c.loop-node.invariant.grown c.node_tree.ensures.grown;
      kept = λ id t s. c.node_tree.ensures.kept id t (c.loop-node.invariant.kept id t s);
      ok = c.node_tree.ensures.trees;
    }

pub returns-clause-inside : goal.returns-clause-inside
returns-clause-inside c =
    let ns = c.args.nodes.now in
    let pool = c.loop-node.pool in
    let book = c.loop-node.book in
    let ids = c.loop-node.trees.items in
    let new = c.united.new.pool in
    let have = subst (λ ms. HaveTrees pool book (planes_in ns) (insides ms) ids) (all_taken ns c.loop-node.node-index (omega arith)) c.loop-node.invariant.trees in
    IfOk-weaker c.united.result
    (λ (id : TreeId). (ks : List Plane) (p : Point → Bool) → AreUnited pool book ks p ids → HasTree new book ks p id)
    (HasTree new book (planes_in ns) (is_inside_some (map solid_of ns)))
    (λ id made. made (planes_in ns) (is_inside_some (map solid_of ns)) (all_united pool book ns ids have))
    c.united.ensures.united
