-- Nodes that are primitives.
use Rattle.grid_solid.specs.declared.nodes.GridNode.{GridNode, out-GridNode}
use Rattle.grid_solid.specs.declared.nodes.GridNode.TheOpen.{GridNode-F}
use Rattle.grid_solid.specs.declared.nodes.GridNode.TheOpen as layer

abbrev pub layer_is_primitive : GridNode-F GridNode → Type 0
layer_is_primitive (layer.Shell shell) = Unit {0}
layer_is_primitive (layer.HalfSpace plane in_front) = Unit {0}
layer_is_primitive (layer.Combined operator first second) = ⊥
layer_is_primitive (layer.Union parts) = ⊥

-- the node is a shell or a half-space
abbrev pub IsPrimitive : GridNode → Type 0
IsPrimitive n = layer_is_primitive (out-GridNode n)
