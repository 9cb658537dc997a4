-- Each corner and each face takes some of the text.
use Rattle.std.proofs.Common.{◌≡◌, ℕ, ◌+◌, ◌<◌, ◌≤◌, ◌^◌, Some, List, [], ◌∷◌, ◌++◌, length, arith, length-append, codes}
use Rattle.std.specs.List.{flat_map, sum_by}
use Rattle.std.proofs.lemmas.List.Sums.{sum_by-cons}
use Rattle.spec_page.specs.declared.Corner.{Corner}
use Rattle.spec_page.specs.Element.{Face, Element}
use Rattle.spec_page.specs.Items.{Item, Printed, Skipped, Refused, corner_count, face_count}
use Rattle.spec_page.specs.Lines.{exact_line, plane_line, volume_line, corner_lines, face_lines, element_head, element_lines}
use Rattle.spec_page.specs.Page.{item_lines, items_lines, page_head, page_end}
use Rattle.obj_lines.specs.PageLines.{PageLine, line_text, IsLineWithin}
use Rattle.obj_lines.specs.PageLines as page
use Rattle.obj_read.specs.States.{State, Start, Headed, Among, Named, Open, Halved, Faced, Ended, step, corners_of, corners_before, with_face, places_of, are_indices}
use Rattle.obj_read.proofs.Indices.{fits, indices_small}
use Rattle.obj_read.proofs.Steps.{chosen}
use Rattle.obj_read.proofs.Texts.{IsLineKept, text_of, open_text}

cons_long : (c : ℕ) (cs : List ℕ) → 1 ≤ length (c ∷ cs)
cons_long c cs = omega arith

flat_long : {X : Type 0} (f : X → List ℕ) → ((x : X) → 1 ≤ length (f x)) → (xs : List X) → length xs ≤ length (flat_map f xs)
flat_long f long [] = omega arith
flat_long f long (x ∷ xs) =
    let rest = flat_long f long xs in
    let here = long x in
    omega (arith, length-append (f x) (flat_map f xs))

corner_long : (c : Corner) → 1 ≤ length (corner_lines c)
corner_long c = omega arith

face_long : (before : ℕ) (f : Face) → 1 ≤ length (face_lines before f)
face_long before f = omega arith

-- texts joined
five_long : (h c f v : List ℕ) → length c + length f ≤ length (h ++ (c ++ f ++ v))
five_long h c f v = simp length-append (omega arith)

element_long : (before : ℕ) (e : Element) → length e.corners + length e.faces ≤ length (element_lines before e)
element_long before e =
    let corners = flat_long corner_lines corner_long e.corners in
    let faces = flat_long (face_lines before) (face_long before) e.faces in
    omega (arith, corners, faces, five_long (element_head e) (flat_map corner_lines e.corners) (flat_map (face_lines before) e.faces) (volume_line e.six))

item_long : (before : ℕ) (i : Item) → corner_count i + face_count i ≤ length (item_lines before i)
item_long before (Printed e) = element_long before e
item_long before (Skipped n) = omega arith
item_long before (Refused n why) = omega arith

items_long : (before : ℕ) (is : List Item) → corners_before is + sum_by face_count is ≤ length (items_lines before is)
items_long before [] = omega arith
items_long before (i ∷ is) =
    let here = item_long before i in
    let rest = items_long (before + corner_count i) is in
    omega (arith, here, rest, sum_by-cons corner_count i is, sum_by-cons face_count i is, length-append (item_lines before i) (items_lines (before + corner_count i) is))

front_long : (a b c : List ℕ) → length b ≤ length (a ++ b ++ c)
front_long a b c = simp length-append (omega arith)

-- the corners of the items, and their faces, take of a page's text
pub page_long : (grid : ℕ) (is : List Item) (end : List ℕ) → corners_before is + sum_by face_count is ≤ length (page_head grid ++ items_lines 0 is ++ end)
page_long grid is end = omega (arith, items_long 0 is, front_long (page_head grid) (items_lines 0 is) end)

open_longer : (a b h c f : List ℕ) → length b + length c ≤ length (a ++ b ++ h ++ c ++ f)
open_longer a b h c f = simp length-append (omega arith)

open_long : (grid : ℕ) (is : List Item) (e : Element) → corners_before is + length e.corners ≤ length (open_text grid is e)
open_long grid is e =
    let corners = flat_long corner_lines corner_long e.corners in
    omega (arith, corners, items_long 0 is, open_longer (page_head grid) (items_lines 0 is) (element_head e) (flat_map corner_lines e.corners) (flat_map (face_lines (corners_before is)) e.faces))

pub text_long : (s : State) → corners_of s ≤ length (text_of s)
text_long Start = omega arith
text_long Headed = omega arith
text_long (Among grid is) = omega (arith, items_long 0 is, length-append (page_head grid) (items_lines 0 is))
text_long (Named grid is n) = omega (arith, page_long grid is (line_text (page.Element n)))
text_long (Open grid is e) = open_long grid is e
text_long (Halved grid is e p) = omega (arith, open_long grid is e, length-append (open_text grid is e) (exact_line p))
text_long (Faced grid is e h edges) =
    omega (arith, open_long grid is e, front_long [] (open_text grid is e) (plane_line (codes "#p") h), length-append (open_text grid is e ++ plane_line (codes "#p") h) (flat_map (plane_line (codes "#e")) edges))
text_long (Ended grid is) = omega (arith, page_long grid is page_end)

-- a line that may follow keeps the limit of the numbers of corners
pub within_step : (s : State) (l : PageLine) (t : State) → step s l ≡ Some t → corners_of s < 2 ^ 64 → IsLineKept l → IsLineWithin l
within_step s page.Version t e few k = tt
within_step s (page.Grid n) t e few k = k
within_step s (page.Element n) t e few k = k
within_step s (page.Frame f) t e few k = k
within_step s (page.Exact p) t e few k = k
within_step s (page.Printed v) t e few k = k
within_step s (page.Face h) t e few k = k
within_step s (page.Edge h) t e few k = k
within_step (Faced grid is b h edges) (page.Indices ns) t e few k =
    let before = corners_before is in
    let f : Face = record { plane = h; edges = edges; corners = places_of before ns } in
    let parts = chosen (are_indices before (length b.corners) (length edges) ns) (Open grid is (with_face b f)) t e in
    indices_small before (length b.corners) (2 ^ 64) ns few (fits before (length b.corners) (length edges) ns parts.0).range
within_step s (page.Indices ns) t e few k = cc
within_step s (page.Volume six) t e few k = k
within_step s (page.Skipped n) t e few k = k
within_step s (page.Refused n why) t e few k = k
within_step s page.End t e few k = tt
