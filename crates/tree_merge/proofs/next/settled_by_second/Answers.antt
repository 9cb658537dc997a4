use Rattle.tree_merge.proofs.Twos.{settled_column, leaf_second}
use Rattle.tree_merge.proofs.next.settled_by_second.Goals as goal

pub returns-then-is_settled_by_second : goal.returns-then-is_settled_by_second
returns-then-is_settled_by_second c = record {
  settled = λ w stand.
      settled_column c.args.pool.now c.args.table c.args.pair w c.in-Leaf.second
      (leaf_second c.args.pool.now c.in-Leaf.ensures.trees c.args.pair w stand c.in-Leaf.second c.in-Leaf.ensures.value)
      (c.is_settled_by_second.ensures.value.0 c.if-is_settled_by_second.true) c.value.result c.value.ensures.value;
}
