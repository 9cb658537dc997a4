-- An element on the grid: its corners are mapped and rounded to whole steps, or the first refusal (rules of this project). Items
-- come before openings, first operands before second.
use Rattle.std.specs.Prelude.{ℕ, ◌^◌, Bool, not, List, [], ◌∷◌, map, Option, Some, None, Result, Ok, Err}
use Rattle.std.specs.List.{flat_map, list_all, find}
use Rattle.spec_space.specs.declared.Vector.{Vector}
use Rattle.spec_solid.specs.Triangles.{Triangle}
use Rattle.spec_solid.specs.Extrusions.{loop_edges, face_triangles}
use Rattle.spec_solid.specs.Planes.{triangle_planes}
use Rattle.spec_solid.specs.Solids.{Solid, Shell, Combined, Body}
use Rattle.spec_place.specs.Vectors.{is_within}
use Rattle.spec_place.specs.declared.transform.Transform.{Transform}
use Rattle.spec_place.specs.declared.half.HalfSpace.{HalfSpace}
use Rattle.spec_place.specs.Maps.{corner}
use Rattle.spec_place.specs.HalfSpaces.{half_space}
use Rattle.spec_shape.specs.Shapes.{Face, Shape, Faces, Half, ShapeItem, ElementShape, is_bounded}
use Rattle.spec_shape.specs.Shapes as shape
use Rattle.spec_shell.specs.Edges.{Edge, open_edge}
use Rattle.spec_place.specs.declared.fault.PlaceFault.{PlaceFault}
use Rattle.spec_refusal.specs.declared.Refusal.TheVariants.{BadDirection, CornerTooFar, OpenShell, PlaneTooLarge, Unbounded}
use Rattle.spec_refusal.specs.Reads.{Read, next, only_if}
use Rattle.spec_grid.specs.Forms.{is_fitting, reduced_half}

-- Primitives.

-- the face with its corners mapped, in grid steps of so many micrometres
abbrev pub face_on_grid : ℕ → Transform → Face → Face
face_on_grid grid m face = record { at = face.at; loops = map (map (corner m grid)) face.loops }

-- no coordinate has a size above 2^20 steps
abbrev pub is_near : Vector → Bool
is_near v = is_within (2 ^ 20) v

abbrev pub is_face_near : Face → Bool
is_face_near face = list_all (list_all is_near) face.loops

-- the edges of all loops
abbrev pub edges_of : List Face → List Edge
edges_of faces = flat_map (λ f. flat_map loop_edges f.loops) faces

abbrev pub triangles_of : List Face → List Triangle
triangles_of faces = flat_map (λ f. face_triangles f.loops) faces

-- the planes of each triangle of the face fit
abbrev pub is_triangle_fitting : Triangle → Bool
is_triangle_fitting t = list_all is_fitting (triangle_planes t)

abbrev pub is_face_fitting : Face → Bool
is_face_fitting face = list_all is_triangle_fitting (face_triangles face.loops)

-- nothing, if the shell is closed
abbrev pub if_closed : ℕ → Option Edge → Read (Unit {0})
if_closed at None = Ok tt
if_closed at (Some e) = Err (OpenShell at e.0 e.1)

-- nothing, if each face fits
abbrev pub if_fitting : Option Face → Read (Unit {0})
if_fitting None = Ok tt
if_fitting (Some face) = Err (PlaneTooLarge face.at)

-- a primitive by its faces on the grid: its corners are near, its shell is closed, and the planes of its triangles fit
abbrev pub shell : ℕ → List Face → Read Solid
shell at faces =
    only_if (list_all is_face_near faces) (CornerTooFar at) (
    next (if_closed at (open_edge (edges_of faces))) (λ _.
    next (if_fitting (find (λ f. not (is_face_fitting f)) faces)) (λ _. Ok (Shell (triangles_of faces)))))

-- Half-spaces.

-- a half-space on the grid: its place is near, and its plane fits
abbrev pub placed_half : ℕ → HalfSpace → Read Solid
placed_half at h =
    only_if (is_near h.corner) (CornerTooFar at) (
    only_if (is_fitting h.plane) (PlaneTooLarge at) (Ok (reduced_half h.plane h.in_front)))

-- by what its map makes of its plane, which has a normal
abbrev pub half : ℕ → Result HalfSpace PlaceFault → Read Solid
half at (Err fault) = Err (BadDirection at)
half at (Ok h) = placed_half at h

-- Solids.

abbrev pub round_shape : ℕ → Shape → Read Solid
round_shape grid (Faces at m faces) = shell at (map (face_on_grid grid m) faces)
round_shape grid (Half at m agreement) = half at (half_space m grid agreement)
round_shape grid (shape.Combined operator first second) =
    next (round_shape grid first) (λ f. next (round_shape grid second) (λ s. Ok (Combined operator f s)))
round_shape grid (shape.Numbered at inner) = round_shape grid inner

abbrev pub round_items : ℕ → List ShapeItem → Read (List Solid)
round_items grid [] = Ok []
round_items grid (i ∷ is) = next (round_shape grid i.shape) (λ s. next (round_items grid is) (λ ss. Ok (s ∷ ss)))

-- nothing, if each item is bounded
abbrev pub if_bounded : Option ShapeItem → Read (Unit {0})
if_bounded None = Ok tt
if_bounded (Some item) = Err (Unbounded item.at)

-- the element on a grid of so many micrometres
abbrev pub round_element : ℕ → ElementShape → Read Body
round_element grid e =
    next (if_bounded (find (λ i. not (is_bounded i.shape)) e.items)) (λ _.
    next (round_items grid e.items) (λ items.
    next (round_items grid e.openings) (λ openings. Ok (record { items = items; openings = openings }))))
