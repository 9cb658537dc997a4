use Rattle.std.proofs.Common.{◌+◌, ◌∙◌, ap, rules}
use Rattle.ix_page.proofs.PageLists.{taken_more}
use Rattle.ix_page.proofs.items.take_elements.Goals as goal

pub loop-number-preserved : goal.loop-number-preserved
loop-number-preserved g c =
    let one = c.in_ok-take_element.ensures.taken in (
      taken_more _ _ c.loop-number.number-index _ _ _ _ _ _ (search rules) c.loop-number.invariant.0 one,
      one.one ∙ ap (λ n. n + 1) c.loop-number.invariant.1,
      λ list. c.take_element.ensures.texts list ∙ c.loop-number.invariant.2 list,
    )
