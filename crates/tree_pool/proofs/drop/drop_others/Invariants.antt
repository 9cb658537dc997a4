use Rattle.std.proofs.Common.{◌≡◌, ◌<◌, ◌≤◌, ◌⊎◌, ℕ, None, Contains}
use Rattle.tree_pool.specs.Pools.{slot_at}
use Rattle.tree_pool.specs.Index.{IsIndexOf}
use Rattle.tree_pool.proofs.drop.drop_others.Given as goal

-- below the key only those of the list are left, and all others are as before
abbrev pub invariant-loop-key : goal.invariant-loop-key
invariant-loop-key l = record {
  agrees : IsIndexOf l.slots.slots l.index;
  gone : (k : ℕ) → k < l.key → (Contains l.seen.keys (record { key = k }) → ⊥) → slot_at l.slots.slots k ≡ None;
  stay : (k : ℕ) → (l.key ≤ k) ⊎ Contains l.seen.keys (record { key = k }) → slot_at l.slots.slots k ≡ slot_at l.fn.slots.slots k;
}
