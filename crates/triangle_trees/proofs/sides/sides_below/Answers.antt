use Rattle.std.proofs.Common.{refl}
use Rattle.grid_solid.specs.Triangles.{triangle_of}
use Rattle.triangle_trees.proofs.Covers.{sides_are}
use Rattle.triangle_trees.proofs.sides.sides_below.Goals as goal

pub returns-clause-sides : goal.returns-clause-sides
returns-clause-sides c =
    sides_are c.wall_side.new.book c.wall_side-2.new.book c.wall_side-3.new.book c.side_below.new.book (triangle_of c.args.t.now) c.args.forms
    c.in_ok-ab.ab c.in_ok-bc.bc c.in_ok-ca.ca c.in_ok-through.through _ refl
    c.wall_side-2.ensures.grown c.wall_side-3.ensures.grown c.side_below.ensures.grown
    c.in_ok-ab.ensures.side c.in_ok-bc.ensures.side c.in_ok-ca.ensures.side c.in_ok-through.ensures.side
