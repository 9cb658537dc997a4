use Rattle.std.proofs.Common.{◌≡◌, [], ◌∙◌, sym, ap, replicate, length, rules}
use Rattle.corner_book.specs.Places.{places_on_planes}
use Rattle.corner_book.proofs.Books.{no_keys}
use Rattle.corner_book.proofs.Changes.{no_places}
use Rattle.corner_book.proofs.book.CornerBook.list_planes.Goals as goal

pub returns-in_ok-self-clause-listed : goal.returns-in_ok-self-clause-listed
returns-in_ok-self-clause-listed c =
    let none : length c.args.self.now.corners.entries ≡ 0 = search rules in
    c.in_ok-self.ensures ∙ ap (λ n. replicate n []) c.count.ensures.value ∙ no_places c.args.book.now
    ∙ ap (places_on_planes c.args.book.now) (sym (no_keys c.args.self.now.corners.entries none))
