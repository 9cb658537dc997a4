use Rattle.std.proofs.Common.{◌+◌, ◌∙◌, ap, rules}
use Rattle.ix_page.proofs.PageLists.{elements_more}
use Rattle.ix_page.proofs.items.put_elements.Goals as goal

pub loop-number-preserved : goal.loop-number-preserved
loop-number-preserved c =
    let one = c.in_ok-put_element.ensures in
    (elements_more _ _ c.loop-number.number-index _ _ _ _ _ _ (search rules) c.loop-number.invariant.0 one, one.one ∙ ap (λ n. n + 1) c.loop-number.invariant.1)
