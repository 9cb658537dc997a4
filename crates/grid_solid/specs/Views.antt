-- What the nodes of this crate stand for in the definitions of solids.
use Rattle.spec_solid.specs.Solids.{Solid}
use Rattle.grid_solid.specs.declared.nodes.GridNode.{GridNode}
use Rattle.grid_solid.specs.declared.nodes.GridNode.TheOpen.{GridNode-F}
use Rattle.grid_solid.specs.declared.nodes.GridNode.TheOpen as layer
use Rattle.grid_solid.specs.declared.nodes.GridNode.TheFolds.{fold-GridNode}
use Rattle.grid_solid.specs.Shapes.{Shape, Triangles, Half, Joined, union_of, shape_solid}

abbrev pub layer_of : GridNode-F Shape → Shape
layer_of (layer.Shell shell) = Triangles shell
layer_of (layer.HalfSpace plane in_front) = Half plane in_front
layer_of (layer.Combined operator first second) = Joined operator first second
layer_of (layer.Union parts) = union_of parts

-- the node as plain data
abbrev pub shape_of : GridNode → Shape
shape_of = fold-GridNode Shape layer_of

-- the solid that the node stands for
abbrev pub solid_of : GridNode → Solid
solid_of n = shape_solid (shape_of n)
