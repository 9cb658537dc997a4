use Rattle.std.proofs.Common.{◌≡◌, drop}
use Rattle.ix_profile.specs.Others.{other_than}
use Rattle.ix_profile.proofs.curve.other_than.Given as goal

abbrev pub invariant-loop-r : goal.invariant-loop-r
invariant-loop-r l = other_than l.p l.q (drop l.r-index l.points) ≡ other_than l.p l.q l.points
