use Rattle.std.proofs.Common.{sym}
use Rattle.entity_reader.proofs.Simple.{missing_kind}
use Rattle.entity_reader.proofs.kinds.has_one_of.Goals as goal

pub returns-in-None : goal.returns-in-None
returns-in-None c = missing_kind c.args.table.now.text c.args.kinds.now _ (sym c.in-None.ensures)
