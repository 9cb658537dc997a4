-- What was read of a page, line by line, and what may follow.
use Rattle.std.specs.Prelude.{ℕ, ℤ, ◌+◌, ◌-◌, List, [], ◌∷◌, ◌++◌, map, length, Option, Some, None, Bool, true, false, ◌&&◌, ◌==◌, nat_lt, nat_le, if◌then◌else◌}
use Rattle.std.specs.List.{list_all, sum_by}
use Rattle.spec_place.specs.declared.transform.Transform.{Transform}
use Rattle.spec_space.specs.declared.Point.{Point}
use Rattle.spec_space.specs.declared.Vector.{Vector}
use Rattle.spec_space.specs.declared.Plane.{Plane}
use Rattle.spec_page.specs.Element.{Face, Element}
use Rattle.spec_page.specs.Items.{Item, Printed, Skipped, Refused, corner_count}
use Rattle.obj_lines.specs.PageLines.{PageLine}
use Rattle.obj_lines.specs.PageLines as page

-- nothing yet; the first line; grid and items; further the number of an element; an element so far; further an exact corner; an
-- element, a plane of a face and planes of its edges; the whole page
pub data State : Type 0 where
  Start : State
  Headed : State
  Among : ℕ → List Item → State
  Named : ℕ → List Item → ℕ → State
  Open : ℕ → List Item → Element → State
  Halved : ℕ → List Item → Element → Point → State
  Faced : ℕ → List Item → Element → Plane → List Plane → State
  Ended : ℕ → List Item → State

-- an element without corners and faces
abbrev pub bare_element : ℕ → Transform → Element
bare_element number frame = record { number = number; frame = frame; corners = []; faces = []; six = None }

abbrev pub with_corner : Element → Point → Vector → Element
with_corner e p v = record {
  number = e.number;
  frame = e.frame;
  corners = e.corners ++ record { exact = p; printed = v } ∷ [];
  faces = e.faces;
  six = e.six;
}

abbrev pub with_face : Element → Face → Element
with_face e f = record { number = e.number; frame = e.frame; corners = e.corners; faces = e.faces ++ f ∷ []; six = e.six }

abbrev pub with_volume : Element → Option ℤ → Element
with_volume e six = record { number = e.number; frame = e.frame; corners = e.corners; faces = e.faces; six = six }

-- the places of these corners in an element, where so many corners stand before it
abbrev pub places_of : ℕ → List ℕ → List ℕ
places_of before ns = map (λ n. n - (before + 1)) ns

-- each number from this one on differs from the next, and the last from the first
abbrev pub differ_along : ℕ → ℕ → List ℕ → Bool
differ_along first from [] = if from == first then false else true
differ_along first from (to ∷ ns) = if from == to then false else differ_along first to ns

abbrev pub differ_round : List ℕ → Bool
differ_round [] = true
differ_round (n ∷ ns) = differ_along n n ns

-- a number is that of a corner of an element
abbrev pub is_corner : ℕ → ℕ → ℕ → Bool
is_corner before corners n = nat_lt before n && nat_le n (before + corners)

-- numbers of the corners of a face with so many edges, at least three: they are the element's, and neighbours differ
abbrev pub are_indices : ℕ → ℕ → ℕ → List ℕ → Bool
are_indices before corners edges ns = (nat_le 3 edges && edges == length ns) && (list_all (is_corner before corners) ns && differ_round (places_of before ns))

-- the corners before the next element
abbrev pub corners_before : List Item → ℕ
corners_before items = sum_by corner_count items

-- the element with one face more, if these may be its corners
abbrev pub faced : ℕ → List Item → Element → Plane → List Plane → List ℕ → Option State
faced grid items e plane edges ns =
    if are_indices (corners_before items) (length e.corners) (length edges) ns
    then Some (Open grid items (with_face e (record { plane = plane; edges = edges; corners = places_of (corners_before items) ns })))
    else None

-- what was read with one line more, if the line may follow
abbrev pub step : State → PageLine → Option State
step Start page.Version = Some Headed
step Headed (page.Grid n) = Some (Among n [])
step (Among grid items) (page.Element n) = Some (Named grid items n)
step (Among grid items) (page.Skipped n) = Some (Among grid (items ++ Skipped n ∷ []))
step (Among grid items) (page.Refused n why) = Some (Among grid (items ++ Refused n why ∷ []))
step (Among grid items) page.End = Some (Ended grid items)
step (Named grid items n) (page.Frame f) = Some (Open grid items (bare_element n f))
step (Open grid items e) (page.Exact p) = if length e.faces == 0 then Some (Halved grid items e p) else None
step (Open grid items e) (page.Face h) = Some (Faced grid items e h [])
step (Open grid items e) (page.Volume six) = Some (Among grid (items ++ Printed (with_volume e six) ∷ []))
step (Halved grid items e p) (page.Printed v) = Some (Open grid items (with_corner e p v))
step (Faced grid items e h edges) (page.Edge m) = Some (Faced grid items e h (edges ++ m ∷ []))
step (Faced grid items e h edges) (page.Indices ns) = faced grid items e h edges ns
step _ _ = None

-- the corners that were read
abbrev pub corners_of : State → ℕ
corners_of Start = 0
corners_of Headed = 0
corners_of (Among grid items) = corners_before items
corners_of (Named grid items n) = corners_before items
corners_of (Open grid items e) = corners_before items + length e.corners
corners_of (Halved grid items e p) = corners_before items + length e.corners
corners_of (Faced grid items e h edges) = corners_before items + length e.corners
corners_of (Ended grid items) = corners_before items
