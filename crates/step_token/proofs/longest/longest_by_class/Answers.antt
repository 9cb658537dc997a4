use Rattle.std.proofs.Common.{sym, ◌∙◌}
use Rattle.step_token.proofs.Best.{reached_more, best_more, longest_dead}
use Rattle.step_token.proofs.longest.longest_by_class.Goals as goal

pub returns-in-None : goal.returns-in-None
returns-in-None c =
    longest_dead c.args.bytes.now c.loop-at.at c.loop-at.state c.loop-at.best c.loop-at-test.true
    (sym c.step.ensures ∙ c.in-None.is) c.loop-at.invariant.reached c.loop-at.invariant.best

pub loop-at-preserved : goal.loop-at-preserved
loop-at-preserved c =
    let reached = reached_more c.args.bytes.now c.loop-at.at c.loop-at.state c.in-Some.next c.loop-at-test.true
    (sym c.step.ensures ∙ c.in-Some.is) c.loop-at.invariant.reached in
    record {
      reached = reached;
      best = rw c.better-best.ensures (best_more c.args.bytes.now c.loop-at.at c.in-Some.next c.loop-at.best reached c.loop-at.invariant.best);
    }
