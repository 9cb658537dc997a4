use Rattle.std.proofs.Common.{◌≡◌, drop}
use Rattle.spec_place.specs.Chains.{then_each, frames_of}
use Rattle.ix_place.proofs.chain.chain_of_links.Given as goal

-- the frame so far, then each of those that are left, is the frame of all
abbrev pub invariant-loop-link : goal.invariant-loop-link
invariant-loop-link l = then_each l.frame (frames_of (drop l.link-index l.rest)) ≡ then_each l.initial.frame (frames_of l.rest)
