use Rattle.std.proofs.Common.{◌≡◌, ◌+◌, get_or, drop, sym, subst, arith}
use Rattle.parity_trees.specs.Works.{sum_of}
use Rattle.parity_trees.proofs.Sums.{IsCountedSoFar, counted_next, counted_ends}
use Rattle.parity_trees.proofs.Lists.{left_here, none_left}
use Rattle.parity_trees.proofs.left.left_in.Goals as goal

pub loop-region-preserved : goal.loop-region-preserved
loop-region-preserved c =
    let book = c.args.book.now in
    let steps = c.args.cell.now.steps.items in
    let regions = c.args.count.now.regions.items in
    let region = c.region-item.result in
    let i = c.loop-region.region-index in
    let is = subst (λ rs. region ≡ get_or rs i region) c.deref-region-items.ensures.value c.region-item.is in
    let here = left_here regions region i (omega arith) is in
    counted_next book steps c.args.taken (sum_of c.args.count.now) (sum_of c.loop-region.left) (sum_of c.add_left.new.count) region (drop (i + 1) regions)
    (i, omega arith, sym is) c.in_ok-add_left.ensures.added
    (subst (IsCountedSoFar book steps c.args.taken (sum_of c.args.count.now) (sum_of c.loop-region.left)) here c.loop-region.invariant)

pub returns : goal.returns
returns c =
    let regions = c.args.count.now.regions.items in
    record {
      left = counted_ends c.args.book.now c.args.cell.now.steps.items c.args.taken (sum_of c.args.count.now) (sum_of c.loop-region.left)
          (subst (IsCountedSoFar c.args.book.now c.args.cell.now.steps.items c.args.taken (sum_of c.args.count.now) (sum_of c.loop-region.left)) (none_left regions c.loop-region.region-index (omega arith)) c.loop-region.invariant);
    }
