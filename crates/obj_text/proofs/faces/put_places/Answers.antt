use Rattle.std.proofs.Common.{refl}
use Rattle.std.specs.List.{flat_map}
use Rattle.spec_page.specs.Lines.{index_text}
use Rattle.world_print.proofs.Appended.{begun, refused, item_more, item_stopped, items_complete}
use Rattle.obj_text.proofs.faces.put_places.Goals as goal

pub loop-place-init : goal.loop-place-init
loop-place-init c = begun (flat_map (index_text c.args.before) c.args.places.now) refl

pub loop-place-preserved : goal.loop-place-preserved
loop-place-preserved c =
    item_more (index_text c.args.before) c.args.places.now c.loop-place.place-index 0 c.loop-place-test.true c.loop-place.invariant c.in_ok-put_index.ensures

pub returns-in_err-put_index : goal.returns-in_err-put_index
returns-in_err-put_index c =
    refused c.from_residual.result c.from_residual.ensures.0
    (item_stopped (index_text c.args.before) c.args.places.now c.loop-place.place-index 0 c.loop-place-test.true c.loop-place.invariant c.in_err-put_index.ensures)

pub returns : goal.returns
returns c = items_complete (index_text c.args.before) c.args.places.now c.loop-place.place-index c.loop-place-test.false c.loop-place.invariant
