use Rattle.std.proofs.Common.{◌≡◌, ◌<◌, ◌-◌, ℕ, slice_get, Some, Contains}
use Rattle.tree_pool.specs.declared.node.TreeId.{TreeId}
use Rattle.tree_pool.specs.Pools.{live_count}
use Rattle.tree_pool.specs.Kept.{IsChild, ReachedIn}
use Rattle.tree_pool.proofs.reach.close.Given as goal

-- what is listed is reached, and the children of those that are done are listed
abbrev pub invariant-loop-at : goal.invariant-loop-at
invariant-loop-at l = record {
  kept : (x : TreeId) → Contains l.fn.seen.keys x → Contains l.seen.keys x;
  closed : (k : ℕ) (x child : TreeId) → k < l.at → slice_get l.seen.keys k ≡ Some x → IsChild l.slots.slots x child → Contains l.seen.keys child;
  sound : (x : TreeId) → Contains l.seen.keys x → (n : ℕ) × ReachedIn l.slots.slots (Contains l.fn.seen.keys) n x;
}

abbrev pub decreases-loop-at : goal.decreases-loop-at
decreases-loop-at l = live_count l.slots.slots - l.at
