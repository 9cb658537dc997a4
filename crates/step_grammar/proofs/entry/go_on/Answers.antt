use Rattle.step_grammar.proofs.Exits.{owes_nothing, popped, pushed, goes_on_list, goes_on_entry}
use Rattle.step_grammar.proofs.entry.go_on.Goals as goal

pub returns-in_err-members-in-Some-List : goal.returns-in_err-members-in-Some-List
returns-in_err-members-in-Some-List c = owes_nothing _ _ c.from_residual.ensures.0

pub returns-in_err-push-in-Some-List : goal.returns-in_err-push-in-Some-List
returns-in_err-push-in-Some-List c =
    owes_nothing _ _ c.from_residual-in_err-push-in-Some-List.ensures.0

pub returns-in_err-params-in-Some-Entry : goal.returns-in_err-params-in-Some-Entry
returns-in_err-params-in-Some-Entry c =
    owes_nothing _ _ c.from_residual-in_err-params-in-Some-Entry.ensures.0

pub returns-in_err-push-in-Some-Entry : goal.returns-in_err-push-in-Some-Entry
returns-in_err-push-in-Some-Entry c =
    owes_nothing _ _ c.from_residual-in_err-push-in-Some-Entry.ensures.0

pub returns-in_ok-push-in-Some-List : goal.returns-in_ok-push-in-Some-List
returns-in_ok-push-in-Some-List c =
    goes_on_list _ _ _ _ _ _ (popped _ _ _ _ _ c.pop.ensures.items c.in-Some-List.is c.in-Some-List.field-0-is) c.in_ok-members-in-Some-List.ensures (pushed _ _ _ c.in_ok-push-in-Some-List.ensures.items)

pub returns-in_ok-push-in-Some-Entry : goal.returns-in_ok-push-in-Some-Entry
returns-in_ok-push-in-Some-Entry c =
    goes_on_entry _ _ _ _ _ _ _ (popped _ _ _ _ _ c.pop.ensures.items c.in-Some-Entry.is c.in-Some-Entry.field-0-is) c.in_ok-params-in-Some-Entry.ensures (pushed _ _ _ c.in_ok-push-in-Some-Entry.ensures.items)
