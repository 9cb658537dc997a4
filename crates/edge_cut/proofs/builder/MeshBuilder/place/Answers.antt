use Rattle.std.proofs.Common.{Some, ap, sym, ◌∙◌}
use Rattle.corner_book.proofs.Same.{corner_eq, same_from_eq}
use Rattle.edge_cut.proofs.FirstUse.{next_place}
use Rattle.edge_cut.proofs.builder.MeshBuilder.place.Goals as goal

pub returns-clause-at : goal.returns-clause-at
returns-clause-at c = let s = c.in_ok-place.ensures.stored in s.1 ∙ ap Some (sym (same_from_eq c.args.corner s.0 s.2))

pub returns-clause-next : goal.returns-clause-next
returns-clause-next c = next_place (corner_eq c.args.corner) c.args.self.now.corners.keys c.insert_full.new.self.keys c.args.corner c.in_ok-place.place c.in_ok-place.ensures.keys c.in_ok-place.ensures.index
