use Rattle.obj_read.proofs.Faced.{few_open, few_faced}
use Rattle.obj_read.proofs.reader.Reader.take.Goals as goal

pub take_part-requires : goal.take_part-requires
take_part-requires c = few_open c.args.self c.in-Open.page c.in-Open.block c.in-Open.is c.requires

pub take_edge-requires : goal.take_edge-requires
take_edge-requires c = few_faced c.args.self c.in-Faced.page c.in-Faced.block c.in-Faced.outline c.in-Faced.is c.requires
