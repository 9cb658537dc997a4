use Rattle.ifc_numbers.specs.Measures.{file_of}
use Rattle.ifc_axes.proofs.Upwards.{unplaced}
use Rattle.ifc_axes.proofs.placements.read_chain.Goals as goal

pub returns-in-None-clause-value : goal.returns-in-None-clause-value
returns-in-None-clause-value c =
    unplaced (file_of c.args.table.now c.args.g.now) c.args.product c.in_ok-first.field-0 c.new.result.items c.in_ok-first.ensures c.in-None.is c.new.ensures.items
