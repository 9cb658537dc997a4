use Rattle.ix_profile.proofs.Opened.{AreOpened}
use Rattle.ix_profile.proofs.loops.Loops.of_curves.Given as goal

abbrev pub invariant-loop-which : goal.invariant-loop-which
invariant-loop-which l = AreOpened l.curves l.loops l.which
