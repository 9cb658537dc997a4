use Rattle.std.proofs.Common.{pos}
use Rattle.grid_solid.specs.Triangles.{IsNear, HasForms}
use Rattle.grid_solid.specs.declared.triangles.GridTriangle.{GridTriangle}
use Rattle.triangle_trees.proofs.Below.{each_at}
use Rattle.triangle_trees.proofs.regions.regions_below.Goals as goal

nowhere : GridTriangle
nowhere = record { a = record { x = pos 0; y = pos 0; z = pos 0 }; b = record { x = pos 0; y = pos 0; z = pos 0 }; c = record { x = pos 0; y = pos 0; z = pos 0 } }

pub add_region-requires-clause-near : goal.add_region-requires-clause-near
unfolding nowhere
add_region-requires-clause-near c = each_at IsNear c.args.triangles.now c.loop-t.t-index nowhere c.requires.near c.loop-t-test.true

pub add_region-requires-clause-forms : goal.add_region-requires-clause-forms
unfolding nowhere
add_region-requires-clause-forms c = each_at HasForms c.args.triangles.now c.loop-t.t-index nowhere c.requires.forms c.loop-t-test.true
