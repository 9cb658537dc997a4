use Rattle.step_grammar.proofs.Exits.{owes_nothing}
use Rattle.step_grammar.proofs.file.step_head_entry.Goals as goal

pub returns-in_err-push-in-Read-Semicolon : goal.returns-in_err-push-in-Read-Semicolon
returns-in_err-push-in-Read-Semicolon c = owes_nothing _ _ c.from_residual.ensures.0

pub returns-in_err-next-in_default : goal.returns-in_err-next-in_default
returns-in_err-next-in_default c = owes_nothing _ _ c.from_residual-in_err-next-in_default.ensures.0

pub returns-in_ok-push-in-Read-Semicolon : goal.returns-in_ok-push-in-Read-Semicolon
returns-in_ok-push-in-Read-Semicolon c =
    rw (c.in-Read-Semicolon.is-0, c.in-Read-Semicolon.is-1, c.in_ok-push-in-Read-Semicolon.ensures.ok)
