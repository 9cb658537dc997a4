use Rattle.std.proofs.Common.{◌+◌}
use Rattle.ix_num.proofs.fraction.+compare_sizes.Given as goal

-- each turn leaves smaller numbers below
abbrev pub decreases-compare_sizes : goal.decreases-compare_sizes
decreases-compare_sizes l = l.b + l.d
