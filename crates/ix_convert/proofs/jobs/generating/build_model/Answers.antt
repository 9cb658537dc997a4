use Rattle.std.proofs.Common.{ℕ, ◌≤◌, List, length, sym, subst}
use Rattle.spec_run.specs.Inputs.{most_bytes}
use Rattle.ix_convert.specs.Conversions.{HasReason}
use Rattle.ix_convert.proofs.Models.{small_model, accepted_model}
use Rattle.ix_convert.proofs.jobs.generating.build_model.Goals as goal

pub unreachable-requires : goal.unreachable-requires
unreachable-requires c =
    accepted_model c.args.count c.args.source.now c.in-Err-Refused.field-0-0 c.requires.count c.requires.model
    (subst (HasReason c.args.source.now) c.in-Err-Refused.field-0-is c.in-Err-Refused.ensures.refused)

pub convert_file-requires-clause-small : goal.convert_file-requires-clause-small
convert_file-requires-clause-small c =
    subst (λ (text : List ℕ). length text ≤ most_bytes) (sym c.requires.model) (small_model c.args.count c.requires.count)
