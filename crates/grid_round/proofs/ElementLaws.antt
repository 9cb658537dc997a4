-- An element on the grid: which answer it has, that its items are bounded, and how many planes it has.
use Rattle.std.proofs.Common.{◌≡◌, ℕ, ◌+◌, ◌*◌, ◌≤◌, not, List, Result, Ok, Err, refl, subst, arith}
use Rattle.std.specs.Prelude.{IfOk, sum_by}
use Rattle.std.specs.List.{find}
use Rattle.spec_solid.specs.Solids.{Solid, Body}
use Rattle.spec_shape.specs.Shapes.{ElementShape, ShapeItem, item_count, element_count}
use Rattle.spec_shape.specs.Shapes as shape
use Rattle.spec_refusal.specs.Reads.{Read, next}
use Rattle.spec_grid.specs.Rounded.{if_bounded, round_items, round_element}
use Rattle.grid_solid.specs.declared.solids.GridSolid.{GridSolid}
use Rattle.grid_solid.specs.Bodies.{body_of}
use Rattle.grid_round.specs.declared.faults.RoundFault.{RoundFault}
use Rattle.grid_solid.specs.Counts.{all_planes_count, body_plane_count}
use Rattle.grid_round.specs.Views.{RoundsElement}
use Rattle.grid_round.proofs.SolidLaws.{items_few}

abbrev element_by : Read (Unit {0}) → Read (List Solid) → Read (List Solid) → Read Body
element_by bounded items openings = next bounded (λ _. next items (λ items. next openings (λ openings. Ok (record { items = items; openings = openings }))))

abbrev bounded_of : ElementShape → Read (Unit {0})
bounded_of e = if_bounded (find (λ i. not (shape.is_bounded i.shape)) e.items)

-- ---- counts
element_few : (step : ℕ) (e : ElementShape) (body : Body) → round_element step e ≡ Ok body → body_plane_count body ≤ 4 * element_count e
element_few step e body h = by (bounded_of e) (round_items step e.items) (round_items step e.openings) (items_few step e.items) (items_few step e.openings) h
  where
    sum : (a b c d : ℕ) → a ≤ 4 * c → b ≤ 4 * d → a + b ≤ 4 * (c + d)
    sum a b c d p q = omega arith

    same : (a b : Body) → element_by (Ok tt) (Ok a.items) (Ok a.openings) ≡ Ok b → a ≡ b
    same a b e = cc

    by : (x : Read (Unit {0})) (y z : Read (List Solid)) → ((ss : List Solid) → y ≡ Ok ss → all_planes_count ss ≤ 4 * sum_by item_count e.items)
        → ((ss : List Solid) → z ≡ Ok ss → all_planes_count ss ≤ 4 * sum_by item_count e.openings) → element_by x y z ≡ Ok body → body_plane_count body ≤ 4 * element_count e
    by (Ok nothing) (Ok ss) (Ok ts) few more h =
        subst (λ b. body_plane_count b ≤ 4 * element_count e) (same (record { items = ss; openings = ts }) body h)
        (sum (all_planes_count ss) (all_planes_count ts) (sum_by item_count e.items) (sum_by item_count e.openings) (few ss refl) (more ts refl))
    by (Ok nothing) (Ok ss) (Err refusal) few more h = cc
    by (Ok nothing) (Err refusal) z few more h = cc
    by (Err refusal) y z few more h = cc

pub rounded_has_few : (step : ℕ) (e : ElementShape) (r : Result GridSolid RoundFault) → RoundsElement r (round_element step e) → IfOk r (λ s. body_plane_count (body_of s) ≤ 4 * element_count e)
rounded_has_few step e (Ok s) h = element_few step e (body_of s) h
rounded_has_few step e (Err fault) h = tt
