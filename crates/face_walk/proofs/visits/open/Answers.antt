use Rattle.std.proofs.Common.{◌≡◌, ◌≤◌, ◌<◌, ℕ, length, arith, subst}
use Rattle.std.proofs.lemmas.Result.{on_ok_weaker}
use Rattle.face_walk.proofs.Opened.{leaf_opened, node_opened, dropped_opened}
use Rattle.face_walk.proofs.visits.open.Goals as goal

past : (k n m : ℕ) → m ≡ n → m ≤ k → k < n → ⊥
past k n m e h l = omega arith

pub returns-then-plane-count : goal.returns-then-plane-count
returns-then-plane-count c =
    let n = c.in-Node in
    record {
      opened = dropped_opened c.args.pool.now c.args.book.now c.args.only c.args.path.now c.args.id n.plane n.front n.back n.ensures.value (past n.plane.k (length c.args.book.now) c.count.result c.count.ensures.value c.if-plane-count.true)
          c.args.visits.now.items c.args.faces.now.items;
    }

pub returns-in-Leaf : goal.returns-in-Leaf
returns-in-Leaf c = record {
  opened = leaf_opened c.args.pool.now c.in-Leaf.ensures.trees c.args.book.now c.args.only c.args.path.now c.args.id c.in-Leaf.field-0 c.in-Leaf.ensures.value c.args.visits.now.items c.args.faces.now.items;
}

pub returns-in_ok-add_own_faces-in-Node : goal.returns-in_ok-add_own_faces-in-Node
returns-in_ok-add_own_faces-in-Node c =
    let n = c.in-Node in
    let given = subst (λ m. n.plane.k < m) c.count.ensures.value c.if-plane-count.false in
    record {
      opened = on_ok_weaker c.wait.result
          (λ made. node_opened c.args.pool.now n.ensures.pool c.args.book.now c.args.only c.args.path.now c.args.id n.plane n.front n.back n.ensures.value given c.args.visits.now.items c.wait.new.visits.items c.args.faces.now.items
          c.add_own_faces.new.faces.items made c.in_ok-add_own_faces-in-Node.ensures.added)
          c.wait.ensures.visits;
    }
