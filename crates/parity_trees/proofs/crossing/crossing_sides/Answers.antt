use Rattle.std.proofs.Common.{◌≡◌, true, false, get_or, drop, ◌+◌, [], ◌∷◌, ◌++◌, length, sym, subst, refl, ap, ◌∙◌, arith}
use Rattle.plane_cells.specs.declared.steps.Step.{Step}
use Rattle.parity_trees.specs.Works.{IsDecided}
use Rattle.parity_trees.proofs.Crossings.{AreCrossingSoFar, crossing_kept, crossing_passed, crossing_missed, crossing_ends}
use Rattle.parity_trees.proofs.Lists.{left_at, has_item, none_left}
use Rattle.parity_trees.proofs.crossing.crossing_sides.Goals as goal
use Rattle.parity_trees.proofs.crossing.crossing_sides.Goals.{in-None+in_ok-push-in-None, in-Some-true}

pub returns-in-Some-false-clause-nowhere : goal.returns-in-Some-false-clause-nowhere
returns-in-Some-false-clause-nowhere c =
    let none : Step = record { plane = record { k = 0 }; in_front = false } in
    let sides = c.args.sides.now in
    let i = c.loop-side.side-index in
    let s = get_or sides i none in
    crossing_missed c.args.book.now c.args.cell.now.steps.items c.args.taken sides c.loop-side.crossing.items s (drop (i + 1) sides) (has_item sides i none c.loop-side-test.true) (subst (IsDecided c.args.book.now c.args.cell.now.steps.items s) c.in-Some-false.field-0-test c.in-Some-false.ensures.decided)
    (subst (AreCrossingSoFar c.args.book.now c.args.cell.now.steps.items c.args.taken sides c.loop-side.crossing.items) (left_at sides i none c.loop-side-test.true) c.loop-side.invariant)

pub loop-side-preserved : goal.loop-side-preserved
loop-side-preserved c =
    let none : Step = record { plane = record { k = 0 }; in_front = false } in
    let book = c.args.book.now in
    let steps = c.args.cell.now.steps.items in
    let sides = c.args.sides.now in
    let i = c.loop-side.side-index in
    let s = get_or sides i none in
    let more = drop (i + 1) sides in
    let here = has_item sides i none c.loop-side-test.true in
    let so_far = subst (AreCrossingSoFar book steps c.args.taken sides c.loop-side.crossing.items) (left_at sides i none c.loop-side-test.true) c.loop-side.invariant in
    elim c.match-decided.branch [
      | in-None+in_ok-push-in-None w ↦ subst (λ xs. AreCrossingSoFar book steps c.args.taken sides xs more) (sym (ap (λ v. v.items) w.crossing-is ∙ w.in_ok-push-in-None.ensures.ok)) (crossing_kept book steps c.args.taken sides c.loop-side.crossing.items s more here w.in-None.ensures.crossing so_far)
      | in-Some-true w ↦ subst (λ xs. AreCrossingSoFar book steps c.args.taken sides xs more) (sym (ap (λ v. v.items) w.crossing-is)) (crossing_passed book steps c.args.taken sides c.loop-side.crossing.items s more here (subst (IsDecided book steps s) w.in-Some-true.field-0-test w.in-Some-true.ensures.decided) so_far)
    ]

pub returns-clause-crossing : goal.returns-clause-crossing
returns-clause-crossing c =
    let book = c.args.book.now in
    let sides = c.args.sides.now in
    crossing_ends book c.args.cell.now.steps.items c.args.taken sides c.loop-side.crossing.items
    (subst (AreCrossingSoFar book c.args.cell.now.steps.items c.args.taken sides c.loop-side.crossing.items) (none_left sides c.loop-side.side-index (omega arith)) c.loop-side.invariant)
