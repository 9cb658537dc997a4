use Rattle.std.proofs.Common.{◌≡◌, ◌++◌, drop, Ok}
use Rattle.spec_refusal.specs.Reads.{next}
use Rattle.spec_entity.specs.Reads.{each}
use Rattle.spec_geometry.specs.Curves.{index}
use Rattle.ifc_curves.proofs.segments.indices.Given as goal

abbrev pub invariant-loop-p : goal.invariant-loop-p
invariant-loop-p l =
    each (index l.table l.at l.count) l.members
    ≡ next (each (index l.table l.at l.count) (drop l.p-index l.members)) (λ more. Ok (l.indices.items ++ more))
