use Rattle.obj_read.proofs.Grown.{corner_pushed}
use Rattle.obj_read.proofs.parts.Block.with_corner.Goals as goal

pub returns : goal.returns
returns c = corner_pushed c.args.self c.push.new.self.items c.push-2.new.self.items c.args.corner c.args.place c.in_ok-push.ensures.items c.in_ok-push-2.ensures.items
