use Rattle.std.proofs.Common.{sym, ◌∙◌}
use Rattle.step_text.proofs.Schemas.{schema_named, named_schema}
use Rattle.step_text.proofs.schema.names_schema.Goals as goal

pub returns : goal.returns
returns c = (
  λ h. schema_named c.args.source.now c.args.head.now (sym c.has_schema_entry.ensures ∙ h),
  λ h. c.has_schema_entry.ensures ∙ named_schema c.args.source.now c.args.head.now h,
)
