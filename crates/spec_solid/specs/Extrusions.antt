-- The faces of an extrusion, and the triangles into which faces are cut.
use Rattle.std.specs.Prelude.{ℤ, ◌+ℤ◌, List, [], ◌∷◌, ◌++◌, map}
use Rattle.std.specs.List.{flat_map}
use Rattle.spec_space.specs.declared.Vector.{Vector}
use Rattle.spec_solid.specs.Triangles.{Triangle}

abbrev pub plus : Vector → Vector → Vector
plus u v = record { x = u.x +ℤ v.x; y = u.y +ℤ v.y; z = u.z +ℤ v.z }

-- a loop of corners is closed by the edge from its last to its first
abbrev pub edges_from : Vector → List Vector → List (Vector × Vector)
edges_from first [] = []
edges_from first (u ∷ []) = (u, first) ∷ []
edges_from first (u ∷ v ∷ vs) = (u, v) ∷ edges_from first (v ∷ vs)

abbrev pub loop_edges : List Vector → List (Vector × Vector)
loop_edges [] = []
loop_edges (u ∷ us) = edges_from u (u ∷ us)

-- the faces of a profile of loops that is swept: the bottom, the top, and a quadrilateral for each edge of a loop;
-- a face is a list of loops
abbrev pub extrusion : List (List Vector) → Vector → List (List (List Vector))
extrusion loops sweep =
    loops ∷ map (λ l. map (λ u. plus u sweep) l) loops
    ∷ flat_map (λ l. map (λ e. (e.0 ∷ e.1 ∷ plus e.1 sweep ∷ plus e.0 sweep ∷ []) ∷ []) (loop_edges l)) loops

-- a face is cut into the triangles from the first corner of its first loop to each edge of its loops
abbrev pub fan : Vector → List (List Vector) → List Triangle
fan apex loops = flat_map (λ l. map (λ e. record { a = apex; b = e.0; c = e.1 }) (loop_edges l)) loops

abbrev pub face_triangles : List (List Vector) → List Triangle
face_triangles [] = []
face_triangles ([] ∷ loops) = []
face_triangles ((apex ∷ us) ∷ loops) = fan apex ((apex ∷ us) ∷ loops)
