use Rattle.corner_book.proofs.Sides.{zero_on, not_zero_front, not_zero_back}
use Rattle.corner_book.proofs.lists.is_on.Goals as goal

pub returns-in-On : goal.returns-in-On
returns-in-On c = zero_on _ c.in-On.ensures.value

pub returns-in-Front : goal.returns-in-Front
returns-in-Front c = not_zero_front _ c.in-Front.ensures.value

pub returns-in-Back : goal.returns-in-Back
returns-in-Back c = not_zero_back _ c.in-Back.ensures.value
