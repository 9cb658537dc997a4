use Rattle.std.proofs.Common.{sym, ap, ◌∙◌}
use Rattle.spec_solid.specs.Solids.{truth}
use Rattle.solid_tree.proofs.Trees.{union_table, intersection_table, difference_table}
use Rattle.solid_tree.proofs.unions.table.Goals as goal

pub returns-in-Union : goal.returns-in-Union
returns-in-Union c = record { value = λ p q. union_table p q ∙ sym (ap (λ o. truth o p q) c.in-Union.is) }

pub returns-in-Intersection : goal.returns-in-Intersection
returns-in-Intersection c = record { value = λ p q. intersection_table p q ∙ sym (ap (λ o. truth o p q) c.in-Intersection.is) }

pub returns-in-Difference : goal.returns-in-Difference
returns-in-Difference c = record { value = λ p q. difference_table p q ∙ sym (ap (λ o. truth o p q) c.in-Difference.is) }
