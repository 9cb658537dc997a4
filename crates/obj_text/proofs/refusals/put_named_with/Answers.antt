use Rattle.spec_page.specs.Refusals.{named_at, spaced_number}
use Rattle.world_print.proofs.Appended.{begun_two, one_more, last}
use Rattle.obj_text.proofs.refusals.put_named_with.Goals as goal

pub returns : goal.returns
returns c =
    last c.put_spaced_number.new.page.items c.put_spaced_number.result (one_more (named_at c.args.name.now c.args.at) (begun_two (named_at c.args.name.now c.args.at) (spaced_number c.args.number)) c.in_ok-put_named.ensures) c.put_spaced_number.ensures
