use Rattle.std.proofs.Common.{◌++◌}
use Rattle.spec_page.specs.Refusals.{named_at, spaced_corner}
use Rattle.world_print.proofs.Appended.{begun_two, one_more, last}
use Rattle.obj_text.proofs.refusals.put_named_with_edge.Goals as goal

pub returns : goal.returns
returns c =
    last c.put_edge.new.page.items c.put_edge.result (one_more (named_at c.args.name.now c.args.at) (begun_two (named_at c.args.name.now c.args.at) (spaced_corner c.args.from.now ++ spaced_corner c.args.to.now)) c.in_ok-put_named.ensures) c.put_edge.ensures
