use Rattle.ifc_numbers.specs.Measures.{file_of}
use Rattle.ix_page.proofs.PageLists.{takes_one}
use Rattle.ix_page.proofs.items.take_element.Goals as goal

pub returns-clause-taken : goal.returns-clause-taken
returns-clause-taken g c =
    takes_one (file_of c.args.table.now c.args.g.now) c.args.number c.in_ok-made.made _ _ _ _ c.count.result
    c.in_ok-made.ensures.item c.in_ok-made.ensures.mesh c.in_ok-take_mesh.ensures.taken c.count.ensures.counts c.count.ensures.one
