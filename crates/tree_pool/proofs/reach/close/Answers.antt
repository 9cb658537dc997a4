use Rattle.std.proofs.Common.{◌≡◌, ◌+◌, ◌-◌, ◌<◌, ◌≤◌, ℕ, suc, length, Contains, inl, inr, subst, arith}
use Rattle.tree_pool.specs.declared.node.TreeId.{TreeId}
use Rattle.tree_pool.specs.Pools.{IsLive, live_count}
use Rattle.tree_pool.proofs.Counted.{few, member}
use Rattle.tree_pool.proofs.Lists.{placed}
use Rattle.tree_pool.proofs.Reached.{reached_live, closed_further}
use Rattle.tree_pool.proofs.reach.close.Goals as goal

shrinks : (n a size len : ℕ) → a < size → size ≡ len → len ≤ n → n - (a + 1) < n - a
shrinks n a size len h e k = omega arith

within : (k len size a : ℕ) → k < len → size ≡ len → size ≤ a → k < a
within k len size a h e f = omega arith

pub note_children-requires : goal.note_children-requires
note_children-requires c =
    let m = member c.loop-at.seen.keys c.loop-at.at c.number_at-id.result c.number_at-id.ensures.value in
    let r = c.loop-at.invariant.sound c.number_at-id.result m in record {
      live = reached_live c.args.slots.now.slots c.requires.pool (Contains c.args.seen.now.keys) c.requires.live r.0 c.number_at-id.result r.1;
    }

pub loop-at-smaller : goal.loop-at-smaller
loop-at-smaller c =
    let live : (x : TreeId) → Contains c.loop-at.seen.keys x → IsLive c.args.slots.now.slots x = λ x h.
    let r = c.loop-at.invariant.sound x h in reached_live c.args.slots.now.slots c.requires.pool (Contains c.args.seen.now.keys) c.requires.live r.0 x r.1 in
    shrinks (live_count c.args.slots.now.slots) c.loop-at.at c.size.result (length c.loop-at.seen.keys) c.loop-at-test.true c.size.ensures.value
    (few c.args.slots.now.slots c.loop-at.seen.keys c.size.ensures.once live)

pub loop-at-preserved : goal.loop-at-preserved
loop-at-preserved c = record {
  kept = λ x h. c.in_ok-note_children.ensures.kept x (c.loop-at.invariant.kept x h);
  closed = closed_further c.args.slots.now.slots c.loop-at.seen.keys c.note_children.new.seen.keys c.loop-at.at c.number_at-id.result
      (subst (λ n. c.loop-at.at < n) c.size.ensures.value c.loop-at-test.true) c.number_at-id.ensures.value
      c.in_ok-note_children.ensures.places c.in_ok-note_children.ensures.kept c.in_ok-note_children.ensures.has c.loop-at.invariant.closed;
  sound = λ x h. elim (c.in_ok-note_children.ensures.only x h) [
    | inl old ↦ c.loop-at.invariant.sound x old
    | inr child ↦
        let m = member c.loop-at.seen.keys c.loop-at.at c.number_at-id.result c.number_at-id.ensures.value in
        let r = c.loop-at.invariant.sound c.number_at-id.result m in
        (suc r.0, (c.number_at-id.result, r.1, child))
  ];
}

pub returns-clause-closed : goal.returns-clause-closed
returns-clause-closed c x child h ch =
    let p = placed c.loop-at.seen.keys x h in
    c.loop-at.invariant.closed p.0 x child (within p.0 (length c.loop-at.seen.keys) c.size.result c.loop-at.at p.1 c.size.ensures.value c.loop-at-test.false) p.2 ch
