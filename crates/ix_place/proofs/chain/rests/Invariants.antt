use Rattle.std.proofs.Common.{◌≡◌, ◌-◌, ◌≤◌, drop, length}
use Rattle.spec_place.specs.Chains.{rests}
use Rattle.ix_place.proofs.chain.rests.Given as goal

-- what is left behind the front that is known to be shared has the same rests
abbrev pub invariant-front : goal.invariant-front
invariant-front l = record {
  element : l.shared ≤ length l.element;
  opening : l.shared ≤ length l.opening;
  same : rests (drop l.shared l.element) (drop l.shared l.opening) ≡ rests l.element l.opening;
}

abbrev pub decreases-front : goal.decreases-front
decreases-front l = length l.element - l.shared
