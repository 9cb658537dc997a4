-- OFF text: for each mesh its number, the sizes, its corners in metres, and its faces by places among the corners, from 0 (a
-- profile of this project, after the OFF form).
use Rattle.std.specs.Prelude.{ℕ, List, [], ◌∷◌, ◌++◌, length, codes}
use Rattle.std.specs.List.{flat_map}
use Rattle.std.specs.Fmt.{decimal}
use Rattle.spec_space.specs.declared.Vector.{Vector}
use Rattle.spec_page.specs.declared.Corner.{Corner}
use Rattle.spec_page.specs.Element.{Face, Element}
use Rattle.spec_page.specs.Lines.{number_line, metres, spaced_metres}
use Rattle.world_print.specs.Elements.{Mesh}

-- a number behind a space
abbrev pub spaced_count : ℕ → List ℕ
spaced_count n = 32 ∷ decimal n

-- how many corners and faces there are, and no edge
abbrev pub sizes_line : Element → List ℕ
sizes_line e = decimal (length e.corners) ++ spaced_count (length e.faces) ++ codes " 0\n"

-- a place in micrometres, in metres
abbrev pub place_line : Vector → List ℕ
place_line v = metres v.x ++ spaced_metres v.y ++ spaced_metres v.z ++ 10 ∷ []

abbrev pub corner_line : Corner → List ℕ
corner_line c = place_line c.printed

-- how many corners a face has, and their places
abbrev pub face_line : Face → List ℕ
face_line f = decimal (length f.corners) ++ flat_map spaced_count f.corners ++ 10 ∷ []

-- what stands before the corners
abbrev pub block_head : Element → List ℕ
block_head e = number_line (codes "# ") e.number ++ codes "OFF\n" ++ sizes_line e

abbrev pub off_block : Element → List ℕ
off_block e = block_head e ++ flat_map corner_line e.corners ++ flat_map face_line e.faces

abbrev pub off_text : List Mesh → List ℕ
off_text meshes = flat_map (λ m. off_block m.element) meshes
