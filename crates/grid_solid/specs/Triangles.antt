-- Triangles on the grid: the sizes of their corners, and the reduced forms of their planes.
use Rattle.std.specs.Prelude.{All}
use Rattle.spec_space.specs.declared.Plane.{Plane}
use Rattle.spec_solid.specs.Triangles.{Triangle}
use Rattle.spec_solid.specs.Planes.{triangle_planes}
use Rattle.plane_core.specs.declared.numbers.Plane.{Plane as BookPlane}
use Rattle.plane_core.specs.Planes.{IsReductionOf}
use Rattle.ray_law.specs.Ranges.{AreSteps}
use Rattle.grid_solid.specs.declared.triangles.GridTriangle.{GridTriangle}

-- the triangle with the same corners
abbrev pub triangle_of : GridTriangle → Triangle
triangle_of t = record { a = t.a; b = t.b; c = t.c }

-- each coordinate of a corner has a size of at most 2^20
pub record IsNear (t : Triangle) : Type 0 where
  pub a : AreSteps t.a
  pub b : AreSteps t.b
  pub c : AreSteps t.c

-- the plane has a reduced form within the sizes of planes
abbrev pub HasForm : Plane → Type 0
HasForm k = ∥ ((p : BookPlane) × IsReductionOf p k.a k.b k.c k.d) ∥₁

-- so has each plane of the triangle; an upright one has none
abbrev pub HasForms : Triangle → Type 0
HasForms t = All HasForm (triangle_planes t)
