-- What a solid stands for in the definitions.
use Rattle.std.specs.Prelude.{List, map}
use Rattle.spec_shape.specs.Shapes.{Shape, Faces, Half, Combined, Numbered, united, ShapeItem, ElementShape}
use Rattle.solid_expr.specs.declared.solid.Solid.{Solid}
use Rattle.solid_expr.specs.declared.solid.Solid.TheOpen.{Solid-F}
use Rattle.solid_expr.specs.declared.solid.Solid.TheOpen as layer
use Rattle.solid_expr.specs.declared.solid.Solid.TheFolds.{fold-Solid}
use Rattle.solid_expr.specs.declared.solid.Item.{Item}
use Rattle.solid_expr.specs.declared.solid.ElementSolid.{ElementSolid}

abbrev pub layer_of : Solid-F Shape → Shape
layer_of (layer.Faces at map faces) = Faces at map faces.items
layer_of (layer.Half at map agreement) = Half at map agreement
layer_of (layer.Combined at operator first second) = Numbered at (Combined operator first second)
layer_of (layer.Union at parts) = Numbered at (united parts)

-- the shape of a solid
abbrev pub shape_of : Solid → Shape
shape_of = fold-Solid Shape layer_of

abbrev pub item_of : Item → ShapeItem
item_of item = record { at = item.at; shape = shape_of item.solid }

-- the shape of an element
abbrev pub element_of : ElementSolid → ElementShape
element_of e = record { items = map item_of e.items.items; openings = map item_of e.openings.items; frame = e.frame }
