use Rattle.std.proofs.Common.{Option, sym, ◌∙◌, ap}
use Rattle.std.specs.Option.{option_map}
use Rattle.ifc_kinds.specs.Rows.{Row}
use Rattle.ifc_kinds.specs.declared.kind.Kind.{Kind}
use Rattle.ifc_kinds.proofs.Found.{same_kind}
use Rattle.ifc_kinds.proofs.table.kind_with.Goals as goal

abbrev kind_in : Option Row → Option Kind
kind_in o = option_map (λ row. row.0) o

pub returns-in_err-row : goal.returns-in_err-row
returns-in_err-row c = c.from_residual.ensures ∙ ap kind_in (sym c.in_err-row.was ∙ c.row_with.ensures) ∙ sym (same_kind c.args.keyword.now c.args.rows.now)

pub returns : goal.returns
returns c = ap kind_in (sym c.in_ok-row.was ∙ c.row_with.ensures) ∙ sym (same_kind c.args.keyword.now c.args.rows.now)
