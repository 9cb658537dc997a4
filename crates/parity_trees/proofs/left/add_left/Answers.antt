use Rattle.std.proofs.Common.{◌++◌, [], ◌∷◌, sym, subst}
use Rattle.parity_trees.specs.Works.{IsLeft, IsAdded, sum_of}
use Rattle.parity_trees.proofs.Sums.{added_nowhere, added_everywhere, added_within}
use Rattle.parity_trees.proofs.left.add_left.Goals as goal

pub returns-in-Nowhere : goal.returns-in-Nowhere
returns-in-Nowhere c =
    let left = subst (IsLeft c.args.book.now c.args.cell.now.steps.items c.args.taken c.args.region.now) c.in-Nowhere.is c.in_ok-left_of.ensures.left in
    record { added = added_nowhere c.args.book.now c.args.cell.now.steps.items c.args.taken c.args.region.now c.args.count.now.regions.items c.args.count.now.odd left }

pub returns-in-Everywhere : goal.returns-in-Everywhere
returns-in-Everywhere c =
    let left = subst (IsLeft c.args.book.now c.args.cell.now.steps.items c.args.taken c.args.region.now) c.in-Everywhere.is c.in_ok-left_of.ensures.left in
    record { added = added_everywhere c.args.book.now c.args.cell.now.steps.items c.args.taken c.args.region.now c.args.count.now.regions.items c.args.count.now.odd left }

pub returns-in_ok-push-in-Within : goal.returns-in_ok-push-in-Within
returns-in_ok-push-in-Within c =
    let left = subst (IsLeft c.args.book.now c.args.cell.now.steps.items c.args.taken c.args.region.now) c.in-Within.is c.in_ok-left_of.ensures.left in
    let odd = c.args.count.now.odd in
    record {
      added = subst (λ rs. IsAdded c.args.book.now c.args.cell.now.steps.items c.args.taken c.args.region.now (sum_of c.args.count.now) (record { regions = rs; odd = odd })) (sym c.in_ok-push-in-Within.ensures.items)
          (added_within c.args.book.now c.args.cell.now.steps.items c.args.taken c.args.region.now c.args.count.now.regions.items odd c.in-Within.region left);
    }
