use Rattle.std.proofs.Common.{◌≡◌, drop}
use Rattle.spec_entity.specs.Units.{first_length_unit}
use Rattle.entity_reader.proofs.units.first_length_unit.Given as goal

abbrev pub invariant-loop-member : goal.invariant-loop-member
invariant-loop-member l = first_length_unit l.table l.units l.members ≡ first_length_unit l.table l.units (drop l.member-index l.members)
