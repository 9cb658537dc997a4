use Rattle.std.proofs.Common.{◌≡◌, [], drop}
use Rattle.spec_geometry.specs.Curves.{segments_after}
use Rattle.ifc_curves.proofs.segments.segments.Given as goal

abbrev pub invariant-loop-p : goal.invariant-loop-p
invariant-loop-p l =
    segments_after l.table l.at l.count [] l.members ≡ segments_after l.table l.at l.count l.indices.items (drop l.p-index l.members)
