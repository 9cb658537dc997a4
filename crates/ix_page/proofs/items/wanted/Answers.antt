use Rattle.std.proofs.Common.{◌≡◌, true, List, ℕ, sym, subst}
use Rattle.std.specs.Prelude.{All}
use Rattle.spec_entity.specs.Elements.{has_element_kind}
use Rattle.ix_page.proofs.PageLists.{only_elements}
use Rattle.ix_page.proofs.items.wanted.Goals as goal

pub returns-in-Some-clause-elements : goal.returns-in-Some-clause-elements
returns-in-Some-clause-elements c =
    only_elements c.args.table.now c.deref.result.now c.in-Some.only c.only_among.result c.only_among.ensures
    (subst (λ (ns : List ℕ). All (λ n. has_element_kind c.args.table.now n ≡ true) ns) (sym c.deref.ensures.value) c.in_ok-numbers.ensures.kinds)
