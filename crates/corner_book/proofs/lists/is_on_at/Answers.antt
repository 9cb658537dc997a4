use Rattle.std.proofs.Common.{◌∙◌, sym, ap, false}
use Rattle.std.specs.Option.{option_map_or}
use Rattle.corner_book.specs.Places.{is_on}
use Rattle.corner_book.proofs.Books.{at_key, at_none}
use Rattle.corner_book.proofs.lists.is_on_at.Goals as goal

pub returns-in-Some : goal.returns-in-Some
returns-in-Some c = c.is_on.ensures ∙ sym (ap (λ o. option_map_or (is_on c.args.plane.now) o false) (at_key c.args.corners.now.entries c.args.place _ _ c.in-Some.ensures.entry))

pub returns-in-None : goal.returns-in-None
returns-in-None c = sym (ap (λ o. option_map_or (is_on c.args.plane.now) o false) (at_none c.args.corners.now.entries c.args.place c.in-None.ensures.entry))
