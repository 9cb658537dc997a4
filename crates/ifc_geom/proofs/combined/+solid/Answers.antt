use Rattle.std.proofs.Common.{sym, subst}
use Rattle.ifc_numbers.specs.Measures.{file_of}
use Rattle.ifc_geom.specs.Views.{ReadsSolid}
use Rattle.ifc_geom.proofs.Deeper.{too_deep, goes_in}
use Rattle.ifc_geom.proofs.combined.«+solid».Goals as goal

pub solid-returns-then-deeper-eq0-clause-value : goal.solid-returns-then-deeper-eq0-clause-value
solid-returns-then-deeper-eq0-clause-value b c =
    too_deep c.args.deeper (file_of c.args.table.now c.args.g.now) c.args.at c.args.map.now c.args.count c.if-deeper-eq0.true

pub solid-returns-clause-value : goal.solid-returns-clause-value
solid-returns-clause-value b c =
    subst (ReadsSolid c.solid_by.result) (sym (goes_in c.args.deeper (file_of c.args.table.now c.args.g.now) c.args.at c.args.map.now c.args.count c.if-deeper-eq0.false)) c.solid_by.ensures.value
