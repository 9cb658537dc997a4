use Rattle.std.proofs.Common.{◌<◌, ◌-◌, List, ℕ, length, take, set, sym, ap, ◌∙◌, arith}
use Rattle.corner_book.proofs.Changes.{step_on, step_off}
use Rattle.corner_book.proofs.lists.unlist_corner.Goals as goal
use Rattle.corner_book.proofs.lists.unlist_corner.Goals.{then-is_on, else-is_on}

pub loop-k-preserved : goal.loop-k-preserved
loop-k-preserved c =
    let below : c.loop-k.k < length c.args.lists.now.items = omega (arith, c.loop-k-test.true, c.requires.lists, c.args.lists.now.ok.0) in
    elim c.if-is_on.branch [
      | then-is_on w ↦ step_on (λ l. take (length l - 1) l) c.args.book.now c.args.corner.now c.args.lists.now.items c.loop-k.lists.items c.if-is_on.lists.items c.loop-k.k c.plane.result.now w.index_mut.result.now
          c.loop-k.invariant below c.plane.ensures.value (sym c.is_on.ensures ∙ w.if-is_on.true) w.index_mut.ensures.value
          (ap (λ v. v.items) w.lists-is ∙ ap (λ (l : List ℕ). set c.loop-k.lists.items c.loop-k.k l) w.drop_last.ensures)
      | else-is_on w ↦ step_off (λ l. take (length l - 1) l) c.args.book.now c.args.corner.now c.args.lists.now.items c.loop-k.lists.items c.if-is_on.lists.items c.loop-k.k c.plane.result.now
          c.loop-k.invariant c.plane.ensures.value (sym c.is_on.ensures ∙ w.if-is_on.false) (ap (λ v. v.items) w.lists-is)
    ]
