use Rattle.std.proofs.Common.{Some, ap, sym, ◌∙◌, subst, Contains, List, length, ◌<◌, ◌≤◌, ◌+◌, ◌^◌, arith}
use Rattle.plane_core.specs.declared.numbers.Plane.{Plane}
use Rattle.plane_core.proofs.Books.{same_from_eq, distinct_keys, insert_known, insert_new, insert_keeps, insert_grows, insert_walls}
use Rattle.plane_core.proofs.book.PlaneBook.add.Goals as goal

pub invariant_of-self-2 : goal.invariant_of-self-2
invariant_of-self-2 c = record {
  distinct = distinct_keys c.insert_full.new.self.keys c.in_ok-index.ensures.unique;
  walls = insert_walls c.self.inside.planes.keys c.insert_full.new.self.keys c.args.p c.in_ok-index.ensures.keys c.self.invariant.walls;
  few = at_most c.self.inside.planes.keys c.insert_full.new.self.keys (insert_grows c.self.inside.planes.keys c.insert_full.new.self.keys c.args.p c.in_ok-index.ensures.keys).1 (rw c.self.view_is c.requires.room);
}
  where
    at_most : (old new : List Plane) → length new ≤ length old + 1 → length old < 2 ^ 31 → length new ≤ 2 ^ 31
    at_most old new h k = omega arith

pub returns-clause-number : goal.returns-clause-number
returns-clause-number c = let s = c.in_ok-index.ensures.stored in s.1 ∙ ap Some (sym (same_from_eq c.args.p s.0 s.2))

pub returns-clause-known : goal.returns-clause-known
returns-clause-known c there =
    insert_known c.self.inside.planes.keys c.insert_full.new.self.keys c.args.p c.in_ok-index.ensures.keys (subst (λ ps. Contains ps c.args.p) (sym c.self.view_is) there) ∙ c.self.view_is

pub returns-clause-added : goal.returns-clause-added
returns-clause-added c absent = rw (← c.self.view_is)
    (insert_new c.self.inside.planes.keys c.insert_full.new.self.keys c.args.p c.in_ok-index.ensures.keys (λ there. absent (subst (λ ps. Contains ps c.args.p) c.self.view_is there)))

pub returns-clause-kept : goal.returns-clause-kept
returns-clause-kept c k below = rw (← c.self.view_is)
    (insert_keeps c.self.inside.planes.keys c.insert_full.new.self.keys c.args.p k c.in_ok-index.ensures.keys (rw c.self.view_is below))

pub returns-clause-distinct : goal.returns-clause-distinct
returns-clause-distinct c = distinct_keys c.insert_full.new.self.keys c.in_ok-index.ensures.unique

pub returns-clause-grown : goal.returns-clause-grown
returns-clause-grown c = rw (← c.self.view_is)
    (insert_grows c.self.inside.planes.keys c.insert_full.new.self.keys c.args.p c.in_ok-index.ensures.keys)

pub returns-clause-walls : goal.returns-clause-walls
returns-clause-walls c = insert_walls c.self.inside.planes.keys c.insert_full.new.self.keys c.args.p c.in_ok-index.ensures.keys c.self.invariant.walls
