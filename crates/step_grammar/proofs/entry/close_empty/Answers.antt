use Rattle.std.proofs.Common.{refl}
use Rattle.step_grammar.proofs.Exits.{popped, closes_empty_list, closes_empty_entry}
use Rattle.step_grammar.proofs.entry.close_empty.Goals as goal

pub returns-in-Some-List : goal.returns-in-Some-List
returns-in-Some-List c =
    closes_empty_list _ _ _ (popped _ _ _ _ _ c.pop.ensures.items c.in-Some-List.is c.in-Some-List.field-0-is) (c.if-is_empty.ensures.0 refl)

pub returns-in-Some-Entry : goal.returns-in-Some-Entry
returns-in-Some-Entry c =
    closes_empty_entry _ _ _ _ (popped _ _ _ _ _ c.pop.ensures.items c.in-Some-Entry.is c.in-Some-Entry.field-0-is) (c.if-is_empty-2.ensures.0 refl)
