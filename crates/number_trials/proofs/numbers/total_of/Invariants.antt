use Rattle.std.proofs.Common.{◌*◌, ◌^◌, ◌≤◌, unsigned_abs}
use Rattle.number_trials.proofs.numbers.total_of.Given as goal

-- each number has a size of at most 2^127
abbrev pub invariant-loop-v : goal.invariant-loop-v
invariant-loop-v l = unsigned_abs l.sum ≤ l.v-index * 2 ^ 127
