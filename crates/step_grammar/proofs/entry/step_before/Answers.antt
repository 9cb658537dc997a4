use Rattle.step_grammar.proofs.Exits.{owes_nothing, pushed}
use Rattle.step_grammar.proofs.entry.step_before.Goals as goal

pub returns-in_err-push-in-Open : goal.returns-in_err-push-in-Open
returns-in_err-push-in-Open c = owes_nothing _ _ c.from_residual.ensures.0

pub returns-in-Atom : goal.returns-in-Atom
returns-in-Atom c = rw (c.atom_param.ensures, c.in-Atom.is)

pub returns-in-Number : goal.returns-in-Number
returns-in-Number c = rw c.in-Number.is

pub returns-in-Keyword : goal.returns-in-Keyword
returns-in-Keyword c = rw c.in-Keyword.is

pub returns-in_ok-push-in-Open : goal.returns-in_ok-push-in-Open
returns-in_ok-push-in-Open c =
    rw (c.in-Open.is, pushed _ _ _ c.in_ok-push-in-Open.ensures.items, c.new.ensures)
