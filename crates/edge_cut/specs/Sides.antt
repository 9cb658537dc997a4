-- The edges of a piece, in order.
use Rattle.std.specs.Prelude.{◌≡◌, List, map}
use Rattle.spec_page.specs.Faces.{rotated}
use Rattle.plane_core.specs.declared.numbers.Plane.{Plane as BookPlane}
use Rattle.plane_core.specs.Views.{point_of}
use Rattle.convex_cycles.specs.Cycles.{Step}
use Rattle.poly_frag.specs.Frags.{side_of}
use Rattle.poly_frag.specs.Cycles.{AreCorners}
use Rattle.plane_core.specs.declared.numbers.Corner.{Corner}
use Rattle.poly_frag.specs.declared.frag.Edge.{Edge}
use Rattle.poly_frag.specs.declared.frag.Frag.{Frag}
use Rattle.edge_cut.specs.declared.sides.Side.{Side}

-- the edges of the piece, each with those before and after it and with the corners where it starts and ends
pub record AreSides (planes : List BookPlane) (f : Frag) (sides : List Side) : Type 0 where
  pub edges : map (λ s. s.edge) sides ≡ f.edges.items
  pub before : rotated (map (λ s. s.before) sides) ≡ f.edges.items
  pub after : map (λ s. s.after) sides ≡ rotated f.edges.items
  pub starts : AreCorners planes f (map (λ s. s.start) sides)
  pub ends : map (λ s. s.end) sides ≡ rotated (map (λ s. s.start) sides)

-- the edge as a step of a cycle between its corners
abbrev pub step_of : List BookPlane → Side → Step
step_of planes s = record { prev = side_of planes s.before; side = side_of planes s.edge; next = side_of planes s.after; start = point_of s.start; end = point_of s.end }

-- the edges with these parts
pub record AreJoined (sides : List Side) (befores edges afters : List Edge) (starts ends : List Corner) : Type 0 where
  pub before : map (λ s. s.before) sides ≡ befores
  pub edge : map (λ s. s.edge) sides ≡ edges
  pub after : map (λ s. s.after) sides ≡ afters
  pub start : map (λ s. s.start) sides ≡ starts
  pub end : map (λ s. s.end) sides ≡ ends
