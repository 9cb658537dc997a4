use Rattle.std.proofs.Common.{◌∙◌, sym}
use Rattle.spec_grid.specs.Rounded.{is_triangle_fitting}
use Rattle.grid_solid.specs.Triangles.{triangle_of, IsNear}
use Rattle.grid_round.proofs.Lists.{mapped_at}
use Rattle.grid_round.proofs.Steps.{test_step, test_fails, test_end}
use Rattle.grid_round.proofs.planes.are_fitting.Goals as goal

pub is_triangle_fitting-requires : goal.is_triangle_fitting-requires
is_triangle_fitting-requires c = mapped_at IsNear triangle_of c.args.triangles.now c.loop-triangle.triangle-index _ c.loop-triangle-test.true c.requires

pub returns-then-not-is_triangle_fitting : goal.returns-then-not-is_triangle_fitting
returns-then-not-is_triangle_fitting c =
    test_fails is_triangle_fitting triangle_of c.args.triangles.now c.loop-triangle.triangle-index _ _ c.loop-triangle-test.true
    (sym c.is_triangle_fitting.ensures ∙ c.if-not-is_triangle_fitting.true) c.loop-triangle.invariant

pub loop-triangle-preserved : goal.loop-triangle-preserved
loop-triangle-preserved c =
    test_step is_triangle_fitting triangle_of c.args.triangles.now c.loop-triangle.triangle-index _ _ c.loop-triangle-test.true
    (sym c.is_triangle_fitting.ensures ∙ c.if-not-is_triangle_fitting.false) c.loop-triangle.invariant

pub returns : goal.returns
returns c = test_end is_triangle_fitting triangle_of c.args.triangles.now c.loop-triangle.triangle-index _ c.loop-triangle-test.false c.loop-triangle.invariant
