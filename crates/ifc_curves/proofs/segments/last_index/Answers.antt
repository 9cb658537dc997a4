use Rattle.std.proofs.Common.{sym, ◌∙◌}
use Rattle.ifc_curves.proofs.Joints.{last_found}
use Rattle.ifc_curves.proofs.segments.last_index.Goals as goal

pub returns : goal.returns
returns c = last_found c.args.indices.now (sym c.is_empty.ensures ∙ c.if-is_empty.false)
