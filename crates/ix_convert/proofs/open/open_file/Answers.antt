use Rattle.std.proofs.Common.{◌∙◌, sym}
use Rattle.ix_convert.proofs.open.open_file.Goals as goal

pub returns-clause-refused : goal.returns-clause-refused
returns-clause-refused c =
    c.unit_fault.ensures c.args.source.now
    (record { section = c.in_ok-table.table; file = c.in_ok-table.ensures.file; unit = sym c.length_unit.ensures ∙ c.in-Err.is })
