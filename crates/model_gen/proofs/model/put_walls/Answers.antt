use Rattle.model_gen.proofs.Counted.{walls_more}
use Rattle.model_gen.proofs.model.put_walls.Goals as goal

pub loop-i-preserved : goal.loop-i-preserved
loop-i-preserved c = walls_more _ _ _ c.loop-i.i c.loop-i.invariant c.in_ok-put_wall.ensures
