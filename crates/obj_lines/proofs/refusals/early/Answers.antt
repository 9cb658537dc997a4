use Rattle.obj_lines.proofs.Groups.{early_reading}
use Rattle.obj_lines.proofs.refusals.early.Goals as goal

pub returns : goal.returns
returns c =
    early_reading c.args.text.now c.scale_out_of_range.result c.in_default.ensures c.in_default-curved.ensures c.in_default-bad_attribute.ensures c.in_default-dangling.ensures
    c.in_default-number_too_large.ensures c.in_default-bad_direction.ensures c.scale_out_of_range.ensures
