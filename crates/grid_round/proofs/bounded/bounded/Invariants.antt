use Rattle.std.proofs.Common.{◌≡◌, map, drop, not}
use Rattle.std.specs.List.{find}
use Rattle.spec_shape.specs.Shapes as shape
use Rattle.solid_expr.specs.Views.{item_of}
use Rattle.grid_round.proofs.bounded.bounded.Given as goal

abbrev pub invariant-loop-item : goal.invariant-loop-item
invariant-loop-item l = find (λ i. not (shape.is_bounded i.shape)) (map item_of (drop l.item-index l.items)) ≡ find (λ i. not (shape.is_bounded i.shape)) (map item_of l.items)
