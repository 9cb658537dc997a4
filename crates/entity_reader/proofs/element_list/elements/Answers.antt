use Rattle.entity_reader.proofs.Simple.{elements_simple, elements_kinds}
use Rattle.entity_reader.proofs.element_list.elements.Goals as goal

pub returns-clause-simple : goal.returns-clause-simple
returns-clause-simple c = elements_simple c.args.table.now c.element_numbers.result c.element_numbers.ensures

pub returns-clause-kinds : goal.returns-clause-kinds
returns-clause-kinds c = elements_kinds c.args.table.now c.element_numbers.result c.element_numbers.ensures
