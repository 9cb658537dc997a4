use Rattle.std.proofs.Common.{◌∙◌}
use Rattle.ifc_elem.proofs.Voided.{listed_simple}
use Rattle.ifc_elem.proofs.bodies.body_of.Goals as goal

pub opening_solids-requires-clause-simple : goal.opening_solids-requires-clause-simple
opening_solids-requires-clause-simple c =
    listed_simple c.args.table.now c.args.number c.of_element-relations.result.now (c.of_element-relations.ensures ∙ c.requires.openings c.args.number)
