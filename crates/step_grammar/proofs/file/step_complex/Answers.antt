use Rattle.step_grammar.proofs.Exits.{owes_nothing}
use Rattle.step_grammar.proofs.file.step_complex.Goals as goal

pub returns-in_err-entries-in-Read-Keyword : goal.returns-in_err-entries-in-Read-Keyword
returns-in_err-entries-in-Read-Keyword c = owes_nothing _ _ c.from_residual.ensures.0

pub returns-in_err-entries-in-Read-Close : goal.returns-in_err-entries-in-Read-Close
returns-in_err-entries-in-Read-Close c =
    owes_nothing _ _ c.from_residual-in_err-entries-in-Read-Close.ensures.0

pub returns-in_err-next-in_default : goal.returns-in_err-next-in_default
returns-in_err-next-in_default c = owes_nothing _ _ c.from_residual-in_err-next-in_default.ensures.0

pub returns-in_ok-entries-in-Read-Keyword : goal.returns-in_ok-entries-in-Read-Keyword
returns-in_ok-entries-in-Read-Keyword c =
    rw (c.in-Read-Keyword.is-0, c.in-Read-Keyword.is-1, c.in_ok-entries-in-Read-Keyword.ensures)

pub returns-in_ok-entries-in-Read-Close : goal.returns-in_ok-entries-in-Read-Close
returns-in_ok-entries-in-Read-Close c =
    rw (c.in-Read-Close.is-0, c.in-Read-Close.is-1, c.in_ok-entries-in-Read-Close.ensures)
