-- The lines of an element on a page: Wavefront OBJ with comment lines of this project, version 1.
use Rattle.std.specs.Prelude.{ℕ, ℤ, pos, ◌+◌, ◌/◌, ◌%◌, List, [], ◌∷◌, ◌++◌, Option, Some, None, codes, int_lt, if◌then◌else◌}
use Rattle.std.specs.List.{flat_map}
use Rattle.std.specs.Int.RustNames.{unsigned_abs}
use Rattle.std.specs.Fmt.{decimal, signed_decimal}
use Rattle.spec_space.specs.declared.Plane.{Plane}
use Rattle.spec_space.specs.declared.Point.{Point}
use Rattle.spec_space.specs.declared.Vector.{Vector}
use Rattle.spec_page.specs.declared.Corner.{Corner}
use Rattle.spec_place.specs.declared.transform.Transform.{Transform}
use Rattle.spec_page.specs.Element.{Face, Element}

-- a whole number behind a space
abbrev pub spaced : ℤ → List ℕ
spaced n = 32 ∷ signed_decimal n

-- three whole numbers behind spaces
abbrev pub spaced_three : ℤ → ℤ → ℤ → List ℕ
spaced_three x y z = spaced x ++ spaced y ++ spaced z

abbrev pub spaced_vector : Vector → List ℕ
spaced_vector v = spaced_three v.x v.y v.z

-- six digits
abbrev pub six_digits : ℕ → List ℕ
six_digits n = (48 + n / 100000) ∷ (48 + n / 10000 % 10) ∷ (48 + n / 1000 % 10) ∷ (48 + n / 100 % 10) ∷ (48 + n / 10 % 10) ∷ (48 + n % 10) ∷ []

abbrev pub size_in_metres : ℕ → List ℕ
size_in_metres n = decimal (n / 1000000) ++ 46 ∷ six_digits (n % 1000000)

-- micrometres as metres, with six digits behind the point
abbrev pub metres : ℤ → List ℕ
metres z = if int_lt z (pos 0) then 45 ∷ size_in_metres (unsigned_abs z) else size_in_metres (unsigned_abs z)

abbrev pub spaced_metres : ℤ → List ℕ
spaced_metres z = 32 ∷ metres z

-- the line of a plane, behind its sign
abbrev pub plane_line : List ℕ → Plane → List ℕ
plane_line sign h = sign ++ spaced_three h.a h.b h.c ++ spaced h.d ++ 10 ∷ []

-- the frame's matrix by rows in units of 10^-9, and its offset in nanometres
abbrev pub frame_line : Transform → List ℕ
frame_line f = codes "#frame" ++ spaced_vector f.x ++ spaced_vector f.y ++ spaced_vector f.z ++ spaced_vector f.off ++ 10 ∷ []

-- the exact corner in grid steps
abbrev pub exact_line : Point → List ℕ
exact_line p = codes "#c" ++ spaced_three p.x p.y p.z ++ spaced p.w ++ 10 ∷ []

-- the printed corner in metres
abbrev pub printed_line : Vector → List ℕ
printed_line v = codes "v" ++ spaced_metres v.x ++ spaced_metres v.y ++ spaced_metres v.z ++ 10 ∷ []

abbrev pub corner_lines : Corner → List ℕ
corner_lines c = exact_line c.exact ++ printed_line c.printed

-- the number of a corner of an element over the whole page, from 1, where so many corners stand before the element
abbrev pub index_text : ℕ → ℕ → List ℕ
index_text before place = 32 ∷ decimal (before + place + 1)

abbrev pub indices_line : ℕ → List ℕ → List ℕ
indices_line before places = codes "f" ++ flat_map (index_text before) places ++ 10 ∷ []

abbrev pub face_lines : ℕ → Face → List ℕ
face_lines before f = plane_line (codes "#p") f.plane ++ flat_map (plane_line (codes "#e")) f.edges ++ indices_line before f.corners

abbrev pub volume_line : Option ℤ → List ℕ
volume_line None = codes "#vol6 none\n"
volume_line (Some six) = codes "#vol6" ++ spaced six ++ 10 ∷ []

-- a whole number behind a sign, on a line
abbrev pub number_line : List ℕ → ℕ → List ℕ
number_line sign n = sign ++ decimal n ++ 10 ∷ []

abbrev pub element_head : Element → List ℕ
element_head e = number_line (codes "o ") e.number ++ frame_line e.frame

abbrev pub element_body : ℕ → Element → List ℕ
element_body before e = flat_map corner_lines e.corners ++ flat_map (face_lines before) e.faces ++ volume_line e.six

-- the block of an element, where so many corners stand before it
abbrev pub element_lines : ℕ → Element → List ℕ
element_lines before e = element_head e ++ element_body before e
