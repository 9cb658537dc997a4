use Rattle.std.proofs.Common.{codes}
use Rattle.std.specs.Fmt.{decimal}
use Rattle.world_print.proofs.Appended.{begun_three, one_more, last}
use Rattle.obj_text.proofs.refusals.put_named.Goals as goal

pub returns : goal.returns
returns c =
    last c.put_number.new.page.items c.put_number.result
    (one_more (codes " #") (one_more c.args.name.now (begun_three c.args.name.now (codes " #") (decimal c.args.at)) c.in_ok-extend_from_slice.ensures.items) c.in_ok-extend_from_slice-2.ensures.items)
    (rw c.from.ensures at c.put_number.ensures)
