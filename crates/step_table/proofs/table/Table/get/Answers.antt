use Rattle.std.proofs.Common.{sym, ◌∙◌, ap}
use Rattle.std.specs.Prelude.{slice_get}
use Rattle.std.specs.Option.{option_copied, option_and_then}
use Rattle.step_table.proofs.FirstPlaces.{found_there}
use Rattle.step_table.proofs.table.Table.get.Goals as goal

pub returns-in_err-place : goal.returns-in_err-place
returns-in_err-place c =
    ap option_copied c.from_residual.ensures
    ∙ ap (option_and_then (slice_get c.args.self.now.instances)) (sym c.in_err-place.was ∙ c.place.ensures)
    ∙ found_there c.args.self.now.instances c.args.number

pub returns : goal.returns
returns c =
    c.get.ensures.value
    ∙ ap (λ section. slice_get section.instances c.in_ok-place.place) c.self.view_is
    ∙ ap (option_and_then (slice_get c.args.self.now.instances)) (sym c.in_ok-place.was ∙ c.place.ensures)
    ∙ found_there c.args.self.now.instances c.args.number
