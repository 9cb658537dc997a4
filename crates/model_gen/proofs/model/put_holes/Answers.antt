use Rattle.model_gen.proofs.Counted.{holes_more}
use Rattle.model_gen.proofs.model.put_holes.Goals as goal

pub loop-i-preserved : goal.loop-i-preserved
loop-i-preserved c = holes_more _ _ _ c.loop-i.i c.loop-i.invariant c.in_ok-put_hole.ensures
