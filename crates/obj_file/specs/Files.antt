-- What holds of a page that was read.
use Rattle.std.specs.Prelude.{◌≡◌, ℕ, ◌+◌, ◌≤◌, ◌^◌, ◌-◌, List, [], ◌∷◌, map, length, All, ⊤}
use Rattle.std.specs.List.{sum_by}
use Rattle.spec_page.specs.Items.{Item, corner_count, face_count}
use Rattle.spec_check.specs.Limits.{IsPageGrid, IsItemWithin}
use Rattle.obj_file.specs.Items.{item_of}
use Rattle.obj_file.specs.declared.item.ObjItem.{ObjItem}
use Rattle.obj_file.specs.declared.item.ObjItem.TheVariants as read
use Rattle.obj_file.specs.declared.file.ObjFile.{ObjFile}

-- the items of a page that was read
abbrev pub items_of : ObjFile → List Item
items_of f = map item_of f.items.items

-- each element tells how many corners stand before it, where so many stand before the items
abbrev pub AreCounted : ℕ → List ObjItem → Type 0
AreCounted before [] = ⊤
AreCounted before (read.Printed e ∷ is) = (e.before ≡ before) × AreCounted (before + length e.corners.items) is
AreCounted before (read.Skipped n ∷ is) = AreCounted before is
AreCounted before (read.Refused n why ∷ is) = AreCounted before is

-- it keeps the limits of pages, its elements are counted, and a word holds the numbers of its corners and faces
pub record IsKeptFile (f : ObjFile) : Type 0 where
  pub grid_kept : IsPageGrid f.grid
  pub kept : All IsItemWithin (items_of f)
  pub counted : AreCounted 0 f.items.items
  pub few_corners : sum_by corner_count (items_of f) ≤ 2 ^ 64 - 1
  pub few_faces : sum_by face_count (items_of f) ≤ 2 ^ 64 - 1
