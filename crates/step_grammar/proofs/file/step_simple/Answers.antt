use Rattle.step_grammar.proofs.Exits.{owes_nothing}
use Rattle.step_grammar.proofs.file.step_simple.Goals as goal

pub returns-in_err-next-in_default : goal.returns-in_err-next-in_default
returns-in_err-next-in_default c = owes_nothing _ _ c.from_residual.ensures.0

pub returns-in-Read-Semicolon : goal.returns-in-Read-Semicolon
returns-in-Read-Semicolon c =
    rw (c.in-Read-Semicolon.is-0, c.in-Read-Semicolon.is-1) c.add_instance.ensures
