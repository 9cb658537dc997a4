use Rattle.std.proofs.Common.{◌≡◌, drop}
use Rattle.spec_place.specs.Chains.{then_each}
use Rattle.ix_place.proofs.types.Frame.of_chain.Given as goal

-- the frame so far, then each of those that are left, is the frame of all
abbrev pub invariant-loop-next : goal.invariant-loop-next
invariant-loop-next l = then_each l.frame (drop l.next-index l.rest) ≡ then_each l.initial.frame l.rest
