-- The shape of a node, by its variants.
use Rattle.std.proofs.Common.{◌≡◌, Bool, List, map, ap, sym, ◌∙◌}
use Rattle.spec_solid.specs.declared.BoolOp.{BoolOp}
use Rattle.plane_core.specs.declared.numbers.Plane.{Plane}
use Rattle.grid_solid.specs.declared.shells.GridShell.{GridShell}
use Rattle.grid_solid.specs.declared.nodes.GridNode.{GridNode}
use Rattle.grid_solid.specs.declared.nodes.GridNode.TheVariants.{Shell, HalfSpace, Combined, Union, rolls-Shell, rolls-HalfSpace, rolls-Combined, rolls-Union}
use Rattle.grid_solid.specs.declared.nodes.GridNode.TheOpen as layer
use Rattle.grid_solid.specs.declared.nodes.GridNode.TheFolds.{fold-roll-GridNode}
use Rattle.grid_solid.specs.Shapes.{Shape, Triangles, Half, Joined, union_of}
use Rattle.grid_solid.specs.Views.{layer_of, shape_of}

pub shape-Shell : (shell : GridShell) → shape_of (Shell shell) ≡ Triangles shell
shape-Shell shell = ap shape_of (sym (rolls-Shell shell)) ∙ fold-roll-GridNode Shape layer_of (layer.Shell shell)

pub shape-HalfSpace : (plane : Plane) (in_front : Bool) → shape_of (HalfSpace plane in_front) ≡ Half plane in_front
shape-HalfSpace plane in_front = ap shape_of (sym (rolls-HalfSpace plane in_front)) ∙ fold-roll-GridNode Shape layer_of (layer.HalfSpace plane in_front)

pub shape-Combined : (operator : BoolOp) (first second : GridNode) → shape_of (Combined operator first second) ≡ Joined operator (shape_of first) (shape_of second)
shape-Combined operator first second = ap shape_of (sym (rolls-Combined operator first second)) ∙ fold-roll-GridNode Shape layer_of (layer.Combined operator first second)

pub shape-Union : (parts : List GridNode) → shape_of (Union parts) ≡ union_of (map shape_of parts)
shape-Union parts = ap shape_of (sym (rolls-Union parts)) ∙ fold-roll-GridNode Shape layer_of (layer.Union parts)
