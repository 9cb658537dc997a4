use Rattle.step_grammar.proofs.Exits.{owes_nothing, popped, closes_list, closes_typed, closes_entry}
use Rattle.step_grammar.proofs.entry.close.Goals as goal

pub returns-in_err-members-in-Some-List : goal.returns-in_err-members-in-Some-List
returns-in_err-members-in-Some-List c = owes_nothing _ _ c.from_residual.ensures.0

pub returns-in_err-value-in-Some-Typed : goal.returns-in_err-value-in-Some-Typed
returns-in_err-value-in-Some-Typed c =
    owes_nothing _ _ c.from_residual-in_err-value-in-Some-Typed.ensures.0

pub returns-in_err-params-in-Some-Entry : goal.returns-in_err-params-in-Some-Entry
returns-in_err-params-in-Some-Entry c =
    owes_nothing _ _ c.from_residual-in_err-params-in-Some-Entry.ensures.0

pub returns-in_ok-members-in-Some-List : goal.returns-in_ok-members-in-Some-List
returns-in_ok-members-in-Some-List c =
    closes_list _ _ _ _ _ (popped _ _ _ _ _ c.pop.ensures.items c.in-Some-List.is c.in-Some-List.field-0-is) c.in_ok-members-in-Some-List.ensures

pub returns-in_ok-value-in-Some-Typed : goal.returns-in_ok-value-in-Some-Typed
returns-in_ok-value-in-Some-Typed c =
    closes_typed _ _ _ _ _ (popped _ _ _ _ _ c.pop.ensures.items c.in-Some-Typed.is c.in-Some-Typed.field-0-is) c.in_ok-value-in-Some-Typed.ensures

pub returns-in_ok-params-in-Some-Entry : goal.returns-in_ok-params-in-Some-Entry
returns-in_ok-params-in-Some-Entry c =
    closes_entry _ _ _ _ _ _ (popped _ _ _ _ _ c.pop.ensures.items c.in-Some-Entry.is c.in-Some-Entry.field-0-is) c.in_ok-params-in-Some-Entry.ensures
