use Rattle.std.proofs.Common.{◌-◌, ◌≤◌, length}
use Rattle.step_grammar.specs.Places.{state}
use Rattle.step_text.proofs.HasRead.{HasRead}
use Rattle.step_text.proofs.read.read_trees.Given as goal

abbrev pub invariant-tokens : goal.invariant-tokens
invariant-tokens l = record {
  within : l.from ≤ length l.source;
  read : HasRead l.source l.from (state l.place l.progress);
}

abbrev pub decreases-tokens : goal.decreases-tokens
decreases-tokens l = length l.source - l.from
