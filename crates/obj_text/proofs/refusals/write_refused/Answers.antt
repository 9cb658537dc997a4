use Rattle.std.proofs.Common.{[], ◌∷◌, ◌++◌, codes}
use Rattle.std.specs.Fmt.{decimal}
use Rattle.spec_page.specs.Refusals.{refusal_text}
use Rattle.world_print.proofs.Appended.{refused, begun_three, one_more, stopped_in}
use Rattle.obj_text.proofs.refusals.write_refused.Goals as goal

pub returns-in_err-put_refusal : goal.returns-in_err-put_refusal
returns-in_err-put_refusal c =
    refused c.from_residual-in_err-put_refusal.result c.from_residual-in_err-put_refusal.ensures.0
    (stopped_in (refusal_text c.args.refusal.now) (10 ∷ [])
    (one_more (32 ∷ [])
    (one_more (decimal c.args.number)
    (one_more (codes "#refused ")
    (begun_three (codes "#refused ") (decimal c.args.number) (32 ∷ (refusal_text c.args.refusal.now ++ 10 ∷ []))) c.in_ok-extend_from_slice.ensures.items) (rw c.from.ensures at c.in_ok-put_number.ensures)) c.in_ok-push.ensures.items)
    c.in_err-put_refusal.ensures)
