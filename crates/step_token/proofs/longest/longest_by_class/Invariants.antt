use Rattle.step_token.proofs.Best.{BestSoFar, Reached}
use Rattle.step_token.proofs.longest.longest_by_class.Given as goal

abbrev pub invariant-loop-at : goal.invariant-loop-at
invariant-loop-at l = record {
  reached : Reached l.bytes l.at l.state;
  best : BestSoFar l.bytes l.at l.best;
}
