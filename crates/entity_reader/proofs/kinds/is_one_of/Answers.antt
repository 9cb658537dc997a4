use Rattle.std.proofs.Common.{sym, ◌∙◌}
use Rattle.entity_reader.proofs.Simple.{simple_kinds}
use Rattle.entity_reader.proofs.kinds.is_one_of.Goals as goal

pub returns-clause-simple : goal.returns-clause-simple
returns-clause-simple c = λ true. simple_kinds c.args.table.now c.args.number c.args.kinds.now (sym c.has_one_of.ensures ∙ true)
