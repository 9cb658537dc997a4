use Rattle.std.proofs.Common.{drop}
use Rattle.parity_trees.specs.Works.{sum_of}
use Rattle.parity_trees.proofs.Sums.{IsCountedSoFar}
use Rattle.parity_trees.proofs.left.left_in.Given as goal

-- the count so far, and the regions to come
abbrev pub invariant-loop-region : goal.invariant-loop-region
invariant-loop-region l = IsCountedSoFar l.book l.cell.steps.items l.taken (sum_of l.count) (sum_of l.left) (drop l.region-index l.count.regions.items)
