use Rattle.std.proofs.Common.{arith, refl, ◌∙◌, sym}
use Rattle.step_token.proofs.Gaps.{blank_more, comment_more}
use Rattle.step_token.proofs.gap.skip.Goals as goal

pub loop-at-preserved-then-is_blank : goal.loop-at-preserved-then-is_blank
loop-at-preserved-then-is_blank c = record {
  gap = blank_more c.args.source.now _ c.loop-at.at _ c.loop-at.invariant.gap (omega arith, sym c.is_blank.ensures ∙ c.if-is_blank.true, refl);
  within = omega arith;
}

pub loop-at-preserved : goal.loop-at-preserved
loop-at-preserved c = record {
  gap = comment_more c.args.source.now _ c.loop-at.at _ c.loop-at.invariant.gap c.in-Some.ensures;
  within = c.in-Some.ensures.within;
}
