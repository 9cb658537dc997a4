use Rattle.ifc_numbers.specs.Measures.{file_of}
use Rattle.triangle_counts.proofs.Counts.{body_has_few}
use Rattle.ifc_elem.proofs.Few.{read_has_few}
use Rattle.ifc_elem.proofs.bodies.element_body.Goals as goal

pub returns-clause-law : goal.returns-clause-law
returns-clause-law c = body_has_few (file_of c.args.table.now c.args.g.now) c.args.number

pub returns-clause-few : goal.returns-clause-few
returns-clause-few c = read_has_few (file_of c.args.table.now c.args.g.now) c.args.number c.read_body.result c.read_body.ensures.value
