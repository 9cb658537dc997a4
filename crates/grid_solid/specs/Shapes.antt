-- Nodes as plain data, and the solids that they stand for.
use Rattle.std.specs.Prelude.{Bool, List, [], ◌∷◌, map}
use Rattle.spec_solid.specs.declared.BoolOp.{BoolOp}
use Rattle.spec_solid.specs.declared.BoolOp.TheVariants.{Union}
use Rattle.spec_solid.specs.Solids.{Solid, Shell, HalfSpace, Combined}
use Rattle.plane_core.specs.declared.numbers.Plane.{Plane}
use Rattle.plane_core.specs.Views.{plane_of}
use Rattle.grid_solid.specs.declared.shells.GridShell.{GridShell}
use Rattle.grid_solid.specs.Triangles.{triangle_of}

-- a shell, a half-space, two shapes combined, and the shape without points
pub data Shape : Type 0 where
  Triangles : GridShell → Shape
  Half : Plane → Bool → Shape
  Joined : BoolOp → Shape → Shape → Shape
  Nothing : Shape

-- what lies in some of the shapes
abbrev pub union_of : List Shape → Shape
union_of [] = Nothing
union_of (s ∷ ss) = Joined Union s (union_of ss)

abbrev pub shape_solid : Shape → Solid
shape_solid (Triangles shell) = Shell (map triangle_of shell.triangles)
shape_solid (Half plane in_front) = HalfSpace (plane_of plane) in_front
shape_solid (Joined operator first second) = Combined operator (shape_solid first) (shape_solid second)
shape_solid Nothing = Shell []
