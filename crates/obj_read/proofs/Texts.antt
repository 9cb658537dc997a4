-- The text of what was read, and that it keeps the limits.
use Rattle.std.proofs.Common.{◌≡◌, ℕ, ◌+◌, Option, Some, ℤ, List, [], ◌∷◌, ◌++◌, sym, ap, ◌∙◌, subst, append_assoc, append-nil, zero-add, arith, IfSome, codes}
use Rattle.std.specs.List.{All, flat_map}
use Rattle.std.proofs.lemmas.List.Sums.{sum_by-cons}
use Rattle.std.proofs.lemmas.Grind.{flat_map-append}
use Rattle.spec_space.specs.declared.Point.{Point}
use Rattle.spec_space.specs.declared.Vector.{Vector}
use Rattle.spec_space.specs.declared.Plane.{Plane}
use Rattle.spec_place.specs.Transforms.{IsFrame}
use Rattle.spec_page.specs.declared.Corner.{Corner}
use Rattle.spec_page.specs.Element.{Face, Element}
use Rattle.spec_page.specs.Items.{Item, Printed, corner_count}
use Rattle.spec_page.specs.Lines.{number_line, exact_line, printed_line, plane_line, volume_line, corner_lines, face_lines, element_head}
use Rattle.spec_page.specs.Page.{item_lines, items_lines, page_head, page_text}
use Rattle.spec_headline.specs.Reduced.{IsPrintedPlane, IsExactCorner, IsPrintedCorner}
use Rattle.spec_check.specs.Limits.{IsPageGrid, IsShort, IsVolume, IsElementWithin, IsRefusalWithin, IsItemWithin}
use Rattle.obj_lines.specs.PageLines.{PageLine, line_text, IsLineWithin}
use Rattle.obj_lines.specs.PageLines as page
use Rattle.obj_read.specs.States.{State, Start, Headed, Among, Named, Open, Halved, Faced, Ended, corners_before, with_corner, with_face, with_volume}

abbrev pub items_text : ℕ → List Item → List ℕ
items_text grid items = page_head grid ++ items_lines 0 items

abbrev pub open_text : ℕ → List Item → Element → List ℕ
open_text grid items e = items_text grid items ++ element_head e ++ flat_map corner_lines e.corners ++ flat_map (face_lines (corners_before items)) e.faces

-- the text that was read
abbrev pub text_of : State → List ℕ
text_of Start = []
text_of Headed = codes "# ifcexact 1\n"
text_of (Among grid items) = items_text grid items
text_of (Named grid items n) = items_text grid items ++ number_line (codes "o ") n
text_of (Open grid items e) = open_text grid items e
text_of (Halved grid items e p) = open_text grid items e ++ exact_line p
text_of (Faced grid items e h edges) = open_text grid items e ++ plane_line (codes "#p") h ++ flat_map (plane_line (codes "#e")) edges
text_of (Ended grid items) = page_text grid items

-- what was read keeps the limits
pub record ArePageParts (grid : ℕ) (items : List Item) : Type 0 where
  pub grid_kept : IsPageGrid grid
  pub items_kept : All IsItemWithin items

abbrev pub IsKept : State → Type 0
IsKept Start = Unit {0}
IsKept Headed = Unit {0}
IsKept (Among grid items) = ArePageParts grid items
IsKept (Named grid items n) = ArePageParts grid items × IsShort n
IsKept (Open grid items e) = ArePageParts grid items × IsElementWithin e
IsKept (Halved grid items e p) = ArePageParts grid items × IsElementWithin e × (e.faces ≡ []) × IsExactCorner p
IsKept (Faced grid items e h edges) = ArePageParts grid items × IsElementWithin e × IsPrintedPlane h × All IsPrintedPlane edges
IsKept (Ended grid items) = ArePageParts grid items

-- the limits of a line, whatever the numbers of corners
abbrev pub IsLineKept : PageLine → Type 0
IsLineKept page.Version = Unit {0}
IsLineKept (page.Grid n) = IsPageGrid n
IsLineKept (page.Element n) = IsShort n
IsLineKept (page.Frame f) = IsFrame f
IsLineKept (page.Exact p) = IsExactCorner p
IsLineKept (page.Printed v) = IsPrintedCorner v
IsLineKept (page.Face h) = IsPrintedPlane h
IsLineKept (page.Edge h) = IsPrintedPlane h
IsLineKept (page.Indices ns) = Unit {0}
IsLineKept (page.Volume six) = IfSome six IsVolume
IsLineKept (page.Skipped n) = IsShort n
IsLineKept (page.Refused n why) = IsShort n × IsRefusalWithin why
IsLineKept page.End = Unit {0}

pub line_kept : (l : PageLine) → IsLineWithin l → IsLineKept l
line_kept page.Version w = tt
line_kept (page.Grid n) w = w
line_kept (page.Element n) w = w
line_kept (page.Frame f) w = w
line_kept (page.Exact p) w = w
line_kept (page.Printed v) w = w
line_kept (page.Face h) w = w
line_kept (page.Edge h) w = w
line_kept (page.Indices ns) w = tt
line_kept (page.Volume six) w = w
line_kept (page.Skipped n) w = w
line_kept (page.Refused n why) w = w
line_kept page.End w = tt

-- what was read with the line more
pub record Grows (s : State) (l : PageLine) (t : State) : Type 0 where
  pub kept : IsKept t
  pub text : text_of t ≡ text_of s ++ line_text l

pub moved : (s : State) (l : PageLine) (x t : State) → Some x ≡ Some t → Grows s l x → Grows s l t
moved s l x t e g = let P : State → Type 0 = λ y. Grows s l y in let same : x ≡ t = cc in subst P same g

pub items_lines_push : (before : ℕ) (is : List Item) (i : Item) → items_lines before (is ++ i ∷ []) ≡ items_lines before is ++ item_lines (before + corners_before is) i
items_lines_push before [] i = append-nil (item_lines before i) ∙ ap (λ n. item_lines n i) (omega arith)
items_lines_push before (j ∷ is) i =
    let count : before + corner_count j + corners_before is ≡ before + corners_before (j ∷ is) = omega (arith, sum_by-cons corner_count j is) in
    ap (λ l. item_lines before j ++ l) (items_lines_push (before + corner_count j) is i ∙ ap (λ n. items_lines (before + corner_count j) is ++ item_lines n i) count)
    ∙ sym (append_assoc (item_lines before j) (items_lines (before + corner_count j) is) (item_lines (before + corners_before (j ∷ is)) i))

pub items_text_push : (grid : ℕ) (is : List Item) (i : Item) → items_text grid (is ++ i ∷ []) ≡ items_text grid is ++ item_lines (corners_before is) i
items_text_push grid is i =
    ap (λ l. page_head grid ++ l) (items_lines_push 0 is i ∙ ap (λ n. items_lines 0 is ++ item_lines n i) (zero-add (corners_before is)))
    ∙ sym (append_assoc (page_head grid) (items_lines 0 is) (item_lines (corners_before is) i))

-- texts that are joined in other groups
five_joined : (t h c f v : List ℕ) → t ++ (h ++ (c ++ f ++ v)) ≡ t ++ h ++ c ++ f ++ v
five_joined t h c f v = simp append_assoc

corner_joined : (front cs p v : List ℕ) → front ++ (cs ++ (p ++ v ++ [])) ++ [] ≡ front ++ cs ++ [] ++ p ++ v
corner_joined front cs p v = simp (append_assoc, append-nil)

last_joined : (front fs f : List ℕ) → front ++ (fs ++ (f ++ [])) ≡ front ++ fs ++ f
last_joined front fs f = simp (append_assoc, append-nil)

pub face_joined : (t p es f : List ℕ) → t ++ (p ++ es ++ f) ≡ t ++ p ++ es ++ f
face_joined t p es f = simp append_assoc

pub bare_text : (t n f : List ℕ) → t ++ (n ++ f) ++ [] ++ [] ≡ t ++ n ++ f
bare_text t n f = simp (append_assoc, append-nil)

-- an element of the page is closed by its volume
pub closed : (grid : ℕ) (is : List Item) (e : Element) (six : Option ℤ)
    → items_text grid (is ++ Printed (with_volume e six) ∷ []) ≡ open_text grid is e ++ volume_line six
closed grid is e six =
    items_text_push grid is (Printed (with_volume e six))
    ∙ five_joined (items_text grid is) (element_head e) (flat_map corner_lines e.corners) (flat_map (face_lines (corners_before is)) e.faces) (volume_line six)

pub cornered : (grid : ℕ) (is : List Item) (e : Element) (p : Point) (v : Vector) → e.faces ≡ []
    → open_text grid is (with_corner e p v) ≡ open_text grid is e ++ exact_line p ++ printed_line v
cornered grid is e p v bare =
    let before = corners_before is in
    let front = items_text grid is ++ element_head e in
    let c : Corner = record { exact = p; printed = v } in
    ap (λ l. front ++ flat_map corner_lines (e.corners ++ c ∷ []) ++ flat_map (face_lines before) l) bare
    ∙ ap (λ l. front ++ l ++ []) (flat_map-append corner_lines e.corners (c ∷ []))
    ∙ corner_joined front (flat_map corner_lines e.corners) (exact_line p) (printed_line v)
    ∙ ap (λ l. front ++ flat_map corner_lines e.corners ++ flat_map (face_lines before) l ++ exact_line p ++ printed_line v) (sym bare)

pub with_face_text : (grid : ℕ) (is : List Item) (e : Element) (f : Face)
    → open_text grid is (with_face e f) ≡ open_text grid is e ++ face_lines (corners_before is) f
with_face_text grid is e f =
    let before = corners_before is in
    let front = items_text grid is ++ element_head e ++ flat_map corner_lines e.corners in
    ap (λ l. front ++ l) (flat_map-append (face_lines before) e.faces (f ∷ []))
    ∙ last_joined front (flat_map (face_lines before) e.faces) (face_lines before f)

pub edged : (text : List ℕ) (edges : List Plane) (m : Plane)
    → text ++ flat_map (plane_line (codes "#e")) (edges ++ m ∷ []) ≡ text ++ flat_map (plane_line (codes "#e")) edges ++ plane_line (codes "#e") m
edged text edges m =
    ap (λ l. text ++ l) (flat_map-append (plane_line (codes "#e")) edges (m ∷ []))
    ∙ last_joined text (flat_map (plane_line (codes "#e")) edges) (plane_line (codes "#e") m)
