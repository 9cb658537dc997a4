use Rattle.step_grammar.proofs.Exits.{owes_nothing, pushed}
use Rattle.step_grammar.proofs.entry.step_named.Goals as goal

pub returns-in_err-push-in-Open : goal.returns-in_err-push-in-Open
returns-in_err-push-in-Open c = owes_nothing _ _ c.from_residual.ensures.0

pub returns-in_ok-push-in-Open : goal.returns-in_ok-push-in-Open
returns-in_ok-push-in-Open c =
    rw (c.in-Open.is, pushed _ _ _ c.in_ok-push-in-Open.ensures.items, c.new.ensures)
