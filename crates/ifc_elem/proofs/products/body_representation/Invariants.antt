use Rattle.std.proofs.Common.{◌≡◌, drop}
use Rattle.spec_entity.specs.Elements.{body_representation}
use Rattle.ifc_elem.proofs.products.body_representation.Given as goal

abbrev pub invariant-loop-p : goal.invariant-loop-p
invariant-loop-p l = body_representation l.table l.shape l.representations ≡ body_representation l.table l.shape (drop l.p-index l.representations)
