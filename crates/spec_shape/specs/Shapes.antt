-- Solids as a file gives them, before they are mapped and rounded.
use Rattle.std.specs.Prelude.{ℕ, ℤ, pos, ◌+◌, Bool, true, false, ◌&&◌, ◌||◌, List, [], ◌∷◌, map, length, sum_by}
use Rattle.spec_space.specs.declared.Vector.{Vector}
use Rattle.spec_solid.specs.declared.BoolOp.{BoolOp}
use Rattle.spec_solid.specs.declared.BoolOp.TheVariants.{Union, Intersection, Difference}
use Rattle.spec_solid.specs.Extrusions.{plus, extrusion}
use Rattle.spec_place.specs.declared.transform.Transform.{Transform}
use Rattle.spec_place.specs.Transforms.{identity}
use Rattle.spec_shape.specs.Profiles.{planar}

-- a face by its loops of points in nanometres, with the number of the instance that a refusal of it names
pub record Face : Type 0 where
  pub at : ℕ
  pub loops : List (List Vector)

-- a primitive by its number, its map and its faces before the map; a half-space by its number, the map composed with the
-- axes of its plane, and its AgreementFlag; two solids combined; and what an instance of a number makes of other solids
pub data Shape : Type 0 where
  Faces : ℕ → Transform → List Face → Shape
  Half : ℕ → Transform → Bool → Shape
  Combined : BoolOp → Shape → Shape → Shape
  Numbered : ℕ → Shape → Shape

-- what has no points: a primitive without faces
abbrev pub nothing : Shape
nothing = Faces 0 identity []

-- solids united, from the last to the first
abbrev pub united : List Shape → Shape
united [] = nothing
united (s ∷ ss) = Combined Union s (united ss)

-- an item of a representation, by its number
pub record ShapeItem : Type 0 where
  pub at : ℕ
  pub shape : Shape

-- an element: its items, the items of its openings, both in its own frame, and the frame of the world in which it stands
pub record ElementShape : Type 0 where
  pub items : List ShapeItem
  pub openings : List ShapeItem
  pub frame : Transform

-- Bounded solids (a rule of this project): a union where all parts are, an intersection where some part is, a difference
-- where its first part is.
abbrev pub is_bounded_by : BoolOp → Bool → Bool → Bool
is_bounded_by Union first second = first && second
is_bounded_by Intersection first second = first || second
is_bounded_by Difference first second = first

abbrev pub is_bounded : Shape → Bool
is_bounded (Faces at map faces) = true
is_bounded (Half at map agreement) = false
is_bounded (Combined operator first second) = is_bounded_by operator (is_bounded first) (is_bounded second)
is_bounded (Numbered at shape) = is_bounded shape

-- Counts: a triangle for each edge of a loop, and one for each half-space.
abbrev pub face_count : Face → ℕ
face_count face = sum_by length face.loops

abbrev pub count_triangles : Shape → ℕ
count_triangles (Faces at map faces) = sum_by face_count faces
count_triangles (Half at map agreement) = 1
count_triangles (Combined operator first second) = count_triangles first + count_triangles second
count_triangles (Numbered at shape) = count_triangles shape

abbrev pub item_count : ShapeItem → ℕ
item_count item = count_triangles item.shape

-- how many triangles and half-spaces an element has, those of its openings included
abbrev pub element_count : ElementShape → ℕ
element_count e = sum_by item_count e.items + sum_by item_count e.openings

-- The faces of primitives.

-- the faces of a profile of loops that is swept, all by one number
abbrev pub prism_faces : ℕ → List (List Vector) → Vector → List Face
prism_faces at loops sweep = map (λ loops. record { at = at; loops = loops }) (extrusion loops sweep)

abbrev pub upwards : ℤ → Vector
upwards height = record { x = pos 0; y = pos 0; z = height }

-- loops that are moved along z
abbrev pub lifted : ℤ → List (List Vector) → List (List Vector)
lifted height loops = map (map (plus (upwards height))) loops

-- the faces of a block (IfcBlock) with a corner at 0
abbrev pub block_faces : ℕ → Vector → List Face
block_faces at size = prism_faces at (block_loop ∷ []) (upwards size.z)
  where
    block_loop : List Vector
    block_loop = planar (pos 0) (pos 0) ∷ planar size.x (pos 0) ∷ planar size.x size.y ∷ planar (pos 0) size.y ∷ []
