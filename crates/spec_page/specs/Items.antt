-- The items of a page: what became of each element of a file, in the order of the file.
use Rattle.std.specs.Prelude.{ℕ, Bool, true, false, length}
use Rattle.spec_refusal.specs.declared.Refusal.{Refusal}
use Rattle.spec_page.specs.Element.{Element}

-- an element that was converted; the number of an element that has no body; that of one that is refused, and why
pub data Item : Type 0 where
  Printed : Element → Item
  Skipped : ℕ → Item
  Refused : ℕ → Refusal → Item

abbrev pub is_printed : Item → Bool
is_printed (Printed e) = true
is_printed (Skipped n) = false
is_printed (Refused n why) = false

abbrev pub is_skipped : Item → Bool
is_skipped (Printed e) = false
is_skipped (Skipped n) = true
is_skipped (Refused n why) = false

abbrev pub is_refused : Item → Bool
is_refused (Printed e) = false
is_refused (Skipped n) = false
is_refused (Refused n why) = true

-- the corners that an item has on the page
abbrev pub corner_count : Item → ℕ
corner_count (Printed e) = length e.corners
corner_count (Skipped n) = 0
corner_count (Refused n why) = 0

abbrev pub face_count : Item → ℕ
face_count (Printed e) = length e.faces
face_count (Skipped n) = 0
face_count (Refused n why) = 0
