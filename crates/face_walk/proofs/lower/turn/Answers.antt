use Rattle.std.proofs.Common.{◌≡◌, ◌≤◌, ◌<◌, ℕ, length, arith}
use Rattle.std.proofs.lemmas.Result.{on_ok_weaker}
use Rattle.face_walk.proofs.Sheets.{leaf_turn, dropped_turn}
use Rattle.face_walk.proofs.lower.turn.Goals as goal

past : (k n m : ℕ) → m ≡ n → m ≤ k → k < n → ⊥
past k n m e h l = omega arith

pub returns-in-Leaves : goal.returns-in-Leaves
returns-in-Leaves c = record {
  turn = on_ok_weaker c.settle.result
      (λ d. leaf_turn c.args.pool.now c.meeting.ensures.trees c.args.book.now c.args.sheet c.in-Leaves.in_front c.in-Leaves.behind c.in-Leaves.ensures.meeting.0 c.in-Leaves.ensures.meeting.1 c.args.sheets.now.items c.args.faces.now.items
      c.settle.new.faces.items d)
      c.settle.ensures.settled;
}

pub returns-then-plane-count : goal.returns-then-plane-count
returns-then-plane-count c = record {
  turn = dropped_turn c.args.pool.now c.args.book.now c.args.sheet c.in-Crossing.plane.k c.in-Crossing.ensures.meeting (past c.in-Crossing.plane.k (length c.args.book.now) c.count.result c.count.ensures.value c.if-plane-count.true)
      c.args.sheets.now.items c.args.faces.now.items;
}
