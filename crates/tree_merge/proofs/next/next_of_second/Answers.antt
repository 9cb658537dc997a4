use Rattle.tree_merge.proofs.Twos.{divided_second, settled_row, settled_both, leaf_second}
use Rattle.tree_merge.proofs.next.next_of_second.Goals as goal

pub returns-then-is_settled_by_first : goal.returns-then-is_settled_by_first
returns-then-is_settled_by_first c = record {
  next = λ w stand e. settled_row c.args.pool.now c.args.table c.args.pair w c.args.value e (c.is_settled_by_first.ensures.value.0 c.if-is_settled_by_first.true) c.value.result c.value.ensures.value;
}

pub returns-in-Leaf : goal.returns-in-Leaf
returns-in-Leaf c = record {
  next = λ w stand e.
      settled_both c.args.pool.now c.args.table c.args.pair w c.args.value c.in-Leaf.second e
      (leaf_second c.args.pool.now c.in-Leaf.ensures.trees c.args.pair w stand c.in-Leaf.second c.in-Leaf.ensures.value) c.value-in-Leaf.result c.value-in-Leaf.ensures.value;
}

pub returns-in-Node : goal.returns-in-Node
returns-in-Node c = record {
  next = λ w stand e.
      divided_second c.args.pool.now c.in-Node.ensures.trees c.args.table c.args.pair c.in-Node.plane c.in-Node.front c.in-Node.back w stand c.in-Node.ensures.value;
}
