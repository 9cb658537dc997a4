use Rattle.std.proofs.Common.{◌≡◌, true, length, sym, subst}
use Rattle.std.specs.Prelude.{◌==◌, IfSome}
use Rattle.parity_trees.specs.Works.{AreCrossing}
use Rattle.parity_trees.proofs.Crossings.{none_crosses}
use Rattle.parity_trees.proofs.crossing.left_of.Goals as goal

pub returns-then-is_empty : goal.returns-then-is_empty
returns-then-is_empty c =
    let book = c.args.book.now in
    let steps = c.args.cell.now.steps.items in
    let crossing = c.in-Some.sides.items in
    let made = subst (λ o. IfSome o (λ k. AreCrossing book steps c.args.taken c.as_slice.result.now k.items)) c.in-Some.is c.in_ok-crossing_sides.ensures.crossing in
    let is = subst (λ xs. AreCrossing book steps c.args.taken xs crossing) c.as_slice.ensures made in
    record { left = none_crosses book steps c.args.taken c.args.region.now.sides.items crossing is (sym (subst (λ xs. true ≡ (length xs == 0)) c.as_slice-in-Some.ensures c.if-is_empty.ensures)) }
