-- Faces and printed corners of a mesh as those of the definitions, and the volume of its printed faces.
use Rattle.std.specs.Prelude.{ℕ, ℤ, pos, List, [], ◌∷◌, map, slice_index_or}
use Rattle.spec_space.specs.declared.Plane.{Plane}
use Rattle.spec_space.specs.declared.Vector.{Vector}
use Rattle.spec_space.specs.Points.{minus, cross, dot}
use Rattle.spec_page.specs.Element.{Face}
use Rattle.spec_page.specs.World.{fan_volume, faces_volume}
use Rattle.exact_mesh.specs.declared.mesh.MeshFace.{MeshFace}

-- the number of the list at a place
abbrev pub number_at : List ℤ → ℕ → ℤ
number_at ns i = slice_index_or ns i (pos 0)

-- the plane of four numbers
abbrev pub numbered_plane : List ℤ → Plane
numbered_plane ns = record { a = number_at ns 0; b = number_at ns 1; c = number_at ns 2; d = number_at ns 3 }

-- the printed face
abbrev pub face_of : MeshFace → Face
face_of f = record { plane = numbered_plane f.plane; edges = map numbered_plane f.edges.items; corners = f.corners.items }

-- the vector of three numbers
abbrev pub vector_of : List ℤ → Vector
vector_of ns = record { x = number_at ns 0; y = number_at ns 1; z = number_at ns 2 }

-- the printed corner at a place
abbrev pub vector_at : List (List ℤ) → ℕ → Vector
vector_at corners i = vector_of (slice_index_or corners i [])

-- the sixfold volume of faces over printed corners, from the first corner
abbrev pub mesh_volume : List (List ℤ) → List MeshFace → ℤ
mesh_volume corners faces = faces_volume (vector_at corners 0) (map (λ f. map (vector_at corners) f.corners.items) faces)

-- the way from the first corner to the one at a place
abbrev pub way_to : List (List ℤ) → ℕ → Vector
way_to corners i = minus (vector_at corners i) (vector_at corners 0)

-- the sixfold volume of the tetrahedron from the first corner over the triangle of three others
abbrev pub tetrahedron : List (List ℤ) → ℕ → ℕ → ℕ → ℤ
tetrahedron corners i j k = dot (way_to corners i) (cross (way_to corners j) (way_to corners k))

-- the sixfold volume over the triangles of a fan: of the first place with each pair of places that follow one another
-- from the second on
abbrev pub fan_of : List (List ℤ) → ℕ → ℕ → List ℕ → ℤ
fan_of corners first second rest = fan_volume (vector_at corners 0) (vector_at corners first) (map (vector_at corners) (second ∷ rest))
