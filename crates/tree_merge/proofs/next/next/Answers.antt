use Rattle.tree_merge.proofs.Twos.{divided_first, leaf_first}
use Rattle.tree_merge.proofs.next.next.Goals as goal

pub returns-in-Leaf : goal.returns-in-Leaf
returns-in-Leaf c = record {
  next = λ w stand. c.next_of_second.ensures.next w stand (leaf_first c.args.pool.now c.in-Leaf.ensures.trees c.args.pair w stand c.in-Leaf.first c.in-Leaf.ensures.value);
}

pub returns-in_default : goal.returns-in_default
returns-in_default c = record {
  next = λ w stand.
      divided_first c.args.pool.now c.in-Node.ensures.trees c.args.table c.args.pair c.in-Node.plane c.in-Node.front c.in-Node.back w stand c.in-Node.ensures.value;
}
