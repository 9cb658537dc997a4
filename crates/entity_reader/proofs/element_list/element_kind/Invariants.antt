use Rattle.std.proofs.Common.{◌≡◌, true, drop}
use Rattle.std.specs.List.{list_any}
use Rattle.spec_entity.specs.Reads.{has_kind}
use Rattle.entity_reader.proofs.element_list.element_kind.Given as goal

-- one of the kinds that are still to come is that of the instance
abbrev pub invariant-loop-kind : goal.invariant-loop-kind
invariant-loop-kind l = list_any (has_kind l.table l.number) (drop l.kind-index l.kinds) ≡ true
