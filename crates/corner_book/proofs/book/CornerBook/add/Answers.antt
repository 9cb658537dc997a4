use Rattle.std.proofs.Common.{Contains, sym, subst}
use Rattle.indexmap.specs.IndexMap.{keys}
use Rattle.corner_book.specs.Corners.{corners_of}
use Rattle.corner_book.proofs.Books.{found_at, found_there, not_found, meetings_next, on_any}
use Rattle.corner_book.proofs.book.CornerBook.add.Goals as goal

pub add_new-requires-clause-absent : goal.add_new-requires-clause-absent
add_new-requires-clause-absent c there =
    let before = subst (λ m. Contains (keys m) c.args.c) c.in_ok-list_planes-in-None.ensures.corners there in
    not_found c.args.self.now.corners.entries c.args.c (sym c.in-None.ensures.found) before.0 before.1 before.2

pub returns-in-Some-clause-place : goal.returns-in-Some-clause-place
returns-in-Some-clause-place c = found_at (corners_of c.args.self.now) c.args.c c.in-Some.place c.in-Some.ensures.index

pub returns-in-Some-clause-added : goal.returns-in-Some-clause-added
returns-in-Some-clause-added c absent = absurd (absent (found_there (corners_of c.args.self.now) c.args.c c.in-Some.place c.in-Some.ensures.index))

pub returns-in_ok-list_planes-in-None-clause-known : goal.returns-in_ok-list_planes-in-None-clause-known
returns-in_ok-list_planes-in-None-clause-known c =
    on_any c.add_new.result (λ there. absurd (not_found c.args.self.now.corners.entries c.args.c (sym c.in-None.ensures.found) there.0 there.1 there.2))

pub returns-in_ok-list_planes-in-None-clause-made : goal.returns-in_ok-list_planes-in-None-clause-made
returns-in_ok-list_planes-in-None-clause-made c = record {
  listed = λ _. c.add_new.ensures.listed;
  met = meetings_next c.add_new.result c.args.book.now c.list_planes.new.self.corners.entries c.add_new.new.self.corners.entries c.args.c c.args.planes
      c.add_new.ensures.corners c.add_new.ensures.planes c.add_new.ensures.err c.in_ok-list_planes-in-None.ensures.made.met c.requires.meet;
}
