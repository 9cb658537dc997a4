use Rattle.std.proofs.Common.{◌≡◌, ℕ, ◌++◌, drop, filter, map}
use Rattle.std.specs.BTreeMap.{get}
use Rattle.std.specs.Ordering.{nat_cmp}
use Rattle.spec_entity.specs.Elements.{voids}
use Rattle.ifc_elem.specs.Voiding.{listed}
use Rattle.ifc_elem.proofs.openings.listed_among.Given as goal

abbrev pub invariant-loop-instance : goal.invariant-loop-instance
invariant-loop-instance l = (n : ℕ) →
    filter (voids l.table n) (map (λ i. i.number) l.instances)
    ≡ listed (get nat_cmp l.relations n) ++ filter (voids l.table n) (map (λ i. i.number) (drop l.instance-index l.instances))
