use Rattle.std.proofs.Common.{◌≡◌, ◌<◌, ◌^◌, ◌+◌, ◌∙◌, ap, drop, get_or}
use Rattle.spec_shape.specs.Shapes.{count_triangles}
use Rattle.solid_expr.specs.Views.{shape_of}
use Rattle.solid_expr.proofs.Counts.{count_all, count_here, count_end, sum_fits, sum_more, sum_end}
use Rattle.solid_expr.proofs.count.+count.Goals as goal

pub count_parts-overflow_add-count : goal.count_parts-overflow_add-count
count_parts-overflow_add-count t c =
    let solids = c.args.solids.now in
    let i = c.loop-solid.solid-index in
    let item = get_or solids i c.solid-item.result in
    let same = c.count_triangles-count.ensures ∙ ap (λ s. count_triangles (shape_of s)) c.solid-item.is in
    let small = sum_fits c.loop-solid.count c.count_triangles-count.result (count_triangles (shape_of item)) (count_all (drop i solids)) (count_all (drop (i + 1) solids))
    (count_all solids) (2 ^ 128) same (count_here solids i c.solid-item.result c.loop-solid-test.true) c.loop-solid.invariant c.requires in
    record { fits = small }

pub count_parts-loop-solid-preserved : goal.count_parts-loop-solid-preserved
count_parts-loop-solid-preserved t c =
    let solids = c.args.solids.now in
    let i = c.loop-solid.solid-index in
    let item = get_or solids i c.solid-item.result in
    let same = c.count_triangles-count.ensures ∙ ap (λ s. count_triangles (shape_of s)) c.solid-item.is in
    sum_more c.loop-solid.count c.count_triangles-count.result (count_triangles (shape_of item)) (count_all (drop i solids)) (count_all (drop (i + 1) solids))
    (count_all solids) same (count_here solids i c.solid-item.result c.loop-solid-test.true) c.loop-solid.invariant

pub count_parts-returns : goal.count_parts-returns
count_parts-returns t c =
    let solids = c.args.solids.now in
    sum_end c.loop-solid.count (count_all (drop c.loop-solid.solid-index solids)) (count_all solids) (count_end solids c.loop-solid.solid-index c.loop-solid-test.false) c.loop-solid.invariant
