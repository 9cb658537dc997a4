use Rattle.std.proofs.Common.{◌≡◌, ◌++◌, drop, Ok}
use Rattle.spec_refusal.specs.Reads.{next}
use Rattle.spec_entity.specs.Reads.{each}
use Rattle.spec_geometry.specs.Curves.{pair}
use Rattle.ifc_numbers.specs.Measures.{file_of}
use Rattle.ifc_curves.proofs.curves.pairs.Given as goal

abbrev pub invariant-loop-p : goal.invariant-loop-p
invariant-loop-p l =
    each (pair (file_of l.table l.g) l.at) l.members
    ≡ next (each (pair (file_of l.table l.g) l.at) (drop l.p-index l.members)) (λ more. Ok (l.points ++ more))
