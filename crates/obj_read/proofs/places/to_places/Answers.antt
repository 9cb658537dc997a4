use Rattle.std.proofs.Common.{◌+◌, ◌-◌, arith}
use Rattle.obj_read.proofs.Grown.{placed_more}
use Rattle.obj_read.proofs.places.to_places.Goals as goal

pub loop-index-preserved : goal.loop-index-preserved
loop-index-preserved c = placed_more (λ n. n - (c.args.before + 1)) c.args.indices.now c.loop-index.indices c.loop-index.index-index (omega arith) c.loop-index.invariant
