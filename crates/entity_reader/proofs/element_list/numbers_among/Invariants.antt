use Rattle.std.proofs.Common.{◌≡◌, ◌++◌, drop, filter, map}
use Rattle.spec_entity.specs.Elements.{has_element_kind}
use Rattle.entity_reader.proofs.element_list.numbers_among.Given as goal

abbrev pub invariant-loop-instance : goal.invariant-loop-instance
invariant-loop-instance l =
    filter (has_element_kind l.table) (map (λ i. i.number) l.instances)
    ≡ l.numbers.items ++ filter (has_element_kind l.table) (map (λ i. i.number) (drop l.instance-index l.instances))
