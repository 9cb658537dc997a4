use Rattle.std.proofs.Common.{◌≡◌, ◌++◌, drop, Ok}
use Rattle.spec_refusal.specs.Reads.{next}
use Rattle.spec_entity.specs.Reads.{each}
use Rattle.spec_geometry.specs.Placements.{link}
use Rattle.ifc_numbers.specs.Measures.{file_of}
use Rattle.ifc_axes.proofs.placements.links.Given as goal

abbrev pub invariant-loop-number : goal.invariant-loop-number
invariant-loop-number l =
    each (link (file_of l.table l.g)) l.numbers
    ≡ next (each (link (file_of l.table l.g)) (drop l.number-index l.numbers)) (λ more. Ok (l.links.items ++ more))
