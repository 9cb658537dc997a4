use Rattle.solid_tree.proofs.OneMeaning.{one_meaning}
use Rattle.solid_tree.proofs.cells.one_meaning_in_each_cell.Goals as goal

pub returns : goal.returns
returns c = one_meaning c.args.solid.now
