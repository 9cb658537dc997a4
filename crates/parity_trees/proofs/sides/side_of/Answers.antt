use Rattle.std.proofs.Common.{subst, ◌≤◌}
use Rattle.std.proofs.lemmas.Option.{slice_get_past}
use Rattle.parity_trees.proofs.Cells.{none_behind}
use Rattle.parity_trees.proofs.sides.side_of.Goals as goal

pub returns-then-plane-count-clause-answer : goal.returns-then-plane-count-clause-answer
returns-then-plane-count-clause-answer c =
    none_behind c.args.book.now c.args.cell.now.steps.items c.args.plane
    (slice_get_past c.args.book.now c.args.plane.k (subst (λ n. n ≤ c.args.plane.k) c.count.ensures.value c.if-plane-count.true))
