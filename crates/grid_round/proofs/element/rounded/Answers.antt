use Rattle.std.proofs.Common.{◌∙◌, ap, sym, not, map}
use Rattle.std.specs.List.{find}
use Rattle.spec_shape.specs.Shapes as shape
use Rattle.spec_grid.specs.Rounded.{if_bounded, round_items}
use Rattle.solid_expr.specs.Views.{item_of}
use Rattle.grid_solid.specs.Views.{solid_of}
use Rattle.grid_round.proofs.SolidLaws.{items_bounded}
use Rattle.grid_round.proofs.element.rounded.Goals as goal

pub invariant_of-result : goal.invariant_of-result
invariant_of-result c =
    let items = c.args.element.now.items.items in
    let test = ap (λ is. if_bounded (find (λ i. not (shape.is_bounded i.shape)) (map item_of is))) (sym c.deref.ensures.value) ∙ sym c.in_ok-bounded.ensures in
    let value = ap (λ is. round_items c.args.step (map item_of is)) (sym c.deref-2.ensures.value) ∙ c.in_ok-items.ensures in
    record { bounded = items_bounded c.args.step (map item_of items) (map solid_of c.in_ok-items.items) test value }
