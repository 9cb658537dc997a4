-- When a face over corners is sound, as a test.
use Rattle.std.specs.Prelude.{ℕ, pos, ◌+◌, ◌*ℤ◌, int_le, int_lt, Bool, true, false, ◌&&◌, if◌then◌else◌, Option, Some, None, List, [], ◌∷◌, map, slice_index_or}
use Rattle.std.specs.List.{list_all}
use Rattle.std.specs.Ordering.{int_eq}
use Rattle.spec_space.specs.declared.Point.{Point}
use Rattle.spec_space.specs.declared.Plane.{Plane}
use Rattle.spec_space.specs.declared.Vector.{Vector}
use Rattle.spec_space.specs.Points.{value, normal, cross, way_between}
use Rattle.spec_page.specs.Element.{Face}
use Rattle.spec_page.specs.Faces.{no_corner, rotated}
use Rattle.plane_core.specs.declared.numbers.Corner.{Corner}
use Rattle.plane_core.specs.Views.{point_of}

-- the point of the corner at a place
abbrev pub point_at : List Corner → ℕ → Point
point_at corners i = slice_index_or (map point_of corners) i no_corner.exact

-- the corners at the places are on the plane
abbrev pub are_on : List Corner → Plane → List ℕ → Bool
are_on corners h places = list_all (λ i. int_eq (value h (point_at corners i)) (pos 0)) places

-- none of the corners at the places is in front of the plane
abbrev pub are_behind : List Corner → Plane → List ℕ → Bool
are_behind corners h places = list_all (λ i. int_le (value h (point_at corners i)) (pos 0)) places

-- for the first coordinate of the direction that is not 0, the way goes to the same side
abbrev pub goes_along : Vector → Vector → Bool
goes_along direction way =
    if int_eq direction.x (pos 0)
    then (if int_eq direction.y (pos 0) then int_lt (pos 0) (direction.z *ℤ way.z) else int_lt (pos 0) (direction.y *ℤ way.y))
    else int_lt (pos 0) (direction.x *ℤ way.x)

-- the plane m is that of an edge from place i to place j of a face on the plane h
abbrev pub is_edge : List Corner → Plane → Plane → List ℕ → ℕ → ℕ → Bool
is_edge corners h m places i j =
    are_on corners m (i ∷ j ∷ []) && (are_behind corners m places
    && goes_along (cross (normal h) (normal m)) (way_between (point_at corners i) (point_at corners j)))

-- each plane is that of the edge between the two places that stand at its place
abbrev pub are_edges : List Corner → Plane → List ℕ → List Plane → List ℕ → List ℕ → Bool
are_edges corners h places [] [] [] = true
are_edges corners h places (m ∷ ms) (i ∷ is) (j ∷ js) = is_edge corners h m places i j && are_edges corners h places ms is js
are_edges corners h places _ _ _ = false

abbrev pub is_flat : List Corner → Face → Bool
is_flat corners f = are_on corners f.plane f.corners

abbrev pub is_sound : List Corner → Face → Bool
is_sound corners f = is_flat corners f && are_edges corners f.plane f.corners f.edges f.corners (rotated f.corners)

-- the place, counted from n, of the first member that does not pass
abbrev pub first_not : {X : Type 0} → (X → Bool) → ℕ → List X → Option ℕ
first_not test n [] = None
first_not test n (x ∷ xs) = if test x then first_not test (n + 1) xs else Some n
