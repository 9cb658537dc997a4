use Rattle.std.proofs.Common.{◌≤◌, ◌∙◌, sym, subst, length}
use Rattle.ix_profile.proofs.Threes.{three_long}
use Rattle.ix_profile.proofs.loops.Loop.of_curve.Goals as goal

pub returns-then-has_three-clause-long : goal.returns-then-has_three-clause-long
returns-then-has_three-clause-long c =
    subst (λ ps. 3 ≤ length ps) c.deref-2.ensures.value (three_long c.deref-2.result.now (sym c.has_three.ensures ∙ c.if-has_three.true))
