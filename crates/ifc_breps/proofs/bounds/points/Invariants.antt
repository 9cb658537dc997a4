use Rattle.std.proofs.Common.{◌≡◌, ◌++◌, drop, Ok}
use Rattle.spec_refusal.specs.Reads.{next}
use Rattle.spec_entity.specs.Reads.{each}
use Rattle.spec_geometry.specs.Points.{point}
use Rattle.spec_geometry.specs.Curves.{member_point}
use Rattle.ifc_numbers.specs.Measures.{file_of}
use Rattle.ifc_breps.proofs.bounds.points.Given as goal

abbrev pub invariant-loop-p : goal.invariant-loop-p
invariant-loop-p l =
    each (member_point (point (file_of l.table l.g)) l.table l.at) l.members
    ≡ next (each (member_point (point (file_of l.table l.g)) l.table l.at) (drop l.p-index l.members)) (λ more. Ok (l.points ++ more))
