use Rattle.grid_solid.specs.Triangles.{triangle_of}
use Rattle.triangle_trees.proofs.Covers.{region_below}
use Rattle.triangle_trees.proofs.regions.region_below.Goals as goal

pub returns-in_ok-sides-in-Reduced-2-clause-region : goal.returns-in_ok-sides-in-Reduced-2-clause-region
returns-in_ok-sides-in-Reduced-2-clause-region c =
    region_below c.sides_below.new.book (triangle_of c.args.t.now) c.in-Reduced.forms c.in-Reduced.ensures.forms c.in_ok-sides-in-Reduced.sides c.in_ok-sides-in-Reduced.ensures.sides _
    c.in_ok-sides-in-Reduced-2.ensures.ok
