use Rattle.std.proofs.Common.{◌≡◌, ◌∙◌, map, ap}
use Rattle.spec_solid.specs.Extrusions.{plus}
use Rattle.solid_expr.proofs.Outlines.{swept_outline}
use Rattle.solid_expr.proofs.prism.top.Goals as goal

pub of_loops-requires : goal.of_loops-requires
of_loops-requires c =
    swept_outline c.args.sweep.now c.args.loops.now c.in_ok-moved.moved
    (c.in_ok-moved.ensures ∙ ap (map (map (λ u. plus u c.args.sweep.now))) c.as_slice.ensures)
    c.requires.sweep c.requires.loops
