-- The sides of prisms.
use Rattle.std.specs.Prelude.{ℕ, pos, List, [], ◌∷◌, map}
use Rattle.spec_space.specs.declared.Vector.{Vector}
use Rattle.spec_solid.specs.Extrusions.{plus, loop_edges}
use Rattle.spec_shape.specs.Profiles.{planar}
use Rattle.spec_shape.specs.Shapes.{Face}

-- what stands first in a rest of a loop, and the loop's first corner where nothing is left
abbrev pub next_in : Vector → List Vector → Vector
next_in first [] = first
next_in first (v ∷ vs) = v

-- the quadrilateral of an edge that is swept
abbrev pub side : Vector → Vector × Vector → List (List Vector)
side sweep e = (e.0 ∷ e.1 ∷ plus e.1 sweep ∷ plus e.0 sweep ∷ []) ∷ []

abbrev pub face_at : ℕ → List (List Vector) → Face
face_at at loops = record { at = at; loops = loops }

-- the faces of the edges of a loop that is swept
abbrev pub loop_sides : ℕ → Vector → List Vector → List Face
loop_sides at sweep l = map (face_at at) (map (side sweep) (loop_edges l))

-- the loop of the bottom of a block
abbrev pub block_loops : Vector → List (List Vector)
block_loops size = (planar (pos 0) (pos 0) ∷ planar size.x (pos 0) ∷ planar size.x size.y ∷ planar (pos 0) size.y ∷ []) ∷ []
