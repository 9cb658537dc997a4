-- What is counted over the items of a page.
use Rattle.std.specs.Prelude.{◌≡◌, true, ℕ, ◌+◌, List, [], ◌∷◌, ◌++◌, length, sum_by, count_by}
use Rattle.std.specs.List.{flat_map}
use Rattle.spec_table.specs.Sections.{DataSection, IsSimple}
use Rattle.spec_entity.specs.Elements.{has_element_kind}
use Rattle.spec_geometry.specs.Files.{File}
use Rattle.spec_page.specs.Items.{Item, is_printed, is_skipped, is_refused, corner_count, face_count}
use Rattle.spec_page.specs.Page.{item_lines, items_lines, if_refused}
use Rattle.spec_outcome.specs.Outcomes.{IsItemOf, AreItemsOf}
use Rattle.spec_meshes.specs.Meshes.{AreMeshesOf}
use Rattle.world_print.specs.Elements.{Mesh}
use Rattle.ix_page.specs.declared.tally.Tally.{Tally}

-- the counts are those of these items, and the refused lines theirs
pub record IsTallyOf (tally : Tally) (items : List Item) : Type 0 where
  pub elements : tally.elements ≡ length items
  pub converted : tally.converted ≡ count_by is_printed items
  pub skipped : tally.skipped ≡ count_by is_skipped items
  pub refused : tally.refused ≡ count_by is_refused items
  pub corners : tally.corners ≡ sum_by corner_count items
  pub faces : tally.faces ≡ sum_by face_count items
  pub lines : tally.refused_lines.items ≡ flat_map if_refused items

-- the number of an instance with one entry, of the kind of an element
pub record IsElement (section : DataSection) (n : ℕ) : Type 0 where
  pub simple : IsSimple section n
  pub kind : has_element_kind section n ≡ true

-- an item more is counted
abbrev pub Counts : Tally → Item → Tally → Type 0
Counts old item new = (items : List Item) → IsTallyOf old items → IsTallyOf new (items ++ item ∷ [])

-- the lines of one element more stand on the page, and it is counted
pub record AddsElement (file : File) (n : ℕ) (page page' : List ℕ) (tally tally' : Tally) : Type 0 where
  pub item : Item
  pub outcome : IsItemOf file n item
  pub lines : page' ≡ page ++ item_lines tally.corners item
  pub counted : Counts tally item tally'
  pub one : tally'.elements ≡ tally.elements + 1

-- the lines of these elements, in order, were put behind a text, and they are counted
pub record HasElements (file : File) (numbers : List ℕ) (before page : List ℕ) (tally : Tally) : Type 0 where
  pub items : List Item
  pub outcomes : AreItemsOf file numbers items
  pub lines : page ≡ before ++ items_lines 0 items
  pub counts : IsTallyOf tally items

-- a writer took the mesh of one element more, if it is converted, and the element is counted
pub record TakesElement (file : File) (n : ℕ) (taken taken' : List Mesh) (tally tally' : Tally) : Type 0 where
  pub item : Item
  pub meshes : List Mesh
  pub outcome : IsItemOf file n item
  pub converted : AreMeshesOf file (item ∷ []) meshes
  pub took : taken' ≡ taken ++ meshes
  pub counted : Counts tally item tally'
  pub one : tally'.elements ≡ tally.elements + 1

-- a writer took the meshes of those of these elements, in order, that are converted, and the elements are counted
pub record HasTaken (file : File) (numbers : List ℕ) (taken taken' : List Mesh) (tally : Tally) : Type 0 where
  pub items : List Item
  pub meshes : List Mesh
  pub outcomes : AreItemsOf file numbers items
  pub converted : AreMeshesOf file items meshes
  pub took : taken' ≡ taken ++ meshes
  pub counts : IsTallyOf tally items
