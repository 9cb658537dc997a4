use Rattle.std.proofs.Common.{◌∙◌}
use Rattle.step_table.proofs.Inwards.{shallower, same_innermost}
use Rattle.step_table.proofs.typed_values.innermost.Goals as goal

pub loop-found-smaller : goal.loop-found-smaller
loop-found-smaller c = shallower c.loop-found.found.now c.in-Typed.field-0 c.in-Typed.inner c.get-found.result.now c.in-Typed.is c.get-found.ensures

pub loop-found-preserved : goal.loop-found-preserved
loop-found-preserved c =
    same_innermost c.loop-found.found.now c.in-Typed.field-0 c.in-Typed.inner c.get-found.result.now c.in-Typed.is c.get-found.ensures
    ∙ c.loop-found.invariant
