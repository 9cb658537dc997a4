use Rattle.std.proofs.Common.{All, take}
use Rattle.tree_pool.specs.Pools.{IsLive, KeepsTrees, AreTrees}
use Rattle.triangle_trees.specs.Forms.{IsGrown}
use Rattle.solid_tree.specs.Unions.{HaveTrees}
use Rattle.solid_tree.proofs.UnionLaws.{insides}
use Rattle.solid_tree.proofs.Rounds.{planes_in, count_in}
use Rattle.solid_tree.proofs.nodes.union_tree.Given as goal

-- the trees of the solids so far
abbrev pub invariant-loop-node : goal.invariant-loop-node
invariant-loop-node l = record {
  trees : HaveTrees l.pool l.book (planes_in l.nodes) (insides (take l.node-index l.nodes)) l.trees.items;
  live : All (IsLive l.pool) l.trees.items;
  grown : IsGrown (count_in (take l.node-index l.nodes)) l.fn.book l.book;
  kept : KeepsTrees l.fn.pool l.pool;
  ok : AreTrees l.pool;
}
