-- Which texts are pages, and the first line at which a text is none (rules of this project).
use Rattle.std.specs.Prelude.{◌≡◌, ◌≢◌, ◌⊎◌, ℕ, ◌+◌, List, [], ◌∷◌, ◌++◌, length, All, codes}
use Rattle.std.specs.List.{flat_map, sum_by}
use Rattle.spec_space.specs.declared.Plane.{Plane}
use Rattle.spec_page.specs.Element.{Element}
use Rattle.spec_page.specs.Items.{Item, corner_count}
use Rattle.spec_page.specs.Lines.{plane_line, element_head, corner_lines, face_lines}
use Rattle.spec_page.specs.Page.{page_head, items_lines, page_text}
use Rattle.spec_headline.specs.Reduced.{IsPrintedPlane}
use Rattle.spec_check.specs.Limits.{IsPageGrid, IsItemWithin, IsElementWithin}

-- the text is the page of these items, which keep the limits
pub record IsPageText (text : List ℕ) (grid : ℕ) (items : List Item) : Type 0 where
  pub grid_kept : IsPageGrid grid
  pub kept : All IsItemWithin items
  pub printed : text ≡ page_text grid items

-- The first line that is not allowed.

-- a page that is cut off in a face: behind whole items stand head, corners and faces of one more element, and then a plane and
-- planes of edges, all within the limits
pub record IsCutPage (text : List ℕ) : Type 0 where
  pub grid : ℕ
  pub items : List Item
  pub element : Element
  pub plane : Plane
  pub edges : List Plane
  pub grid_kept : IsPageGrid grid
  pub kept : All IsItemWithin items
  pub element_kept : IsElementWithin element
  pub plane_kept : IsPrintedPlane plane
  pub edges_kept : All IsPrintedPlane edges
  pub printed : text ≡ page_head grid ++ items_lines 0 items ++ element_head element ++ flat_map corner_lines element.corners
      ++ flat_map (face_lines (sum_by corner_count items)) element.faces ++ plane_line (codes "#p") plane ++ flat_map (plane_line (codes "#e")) edges

-- the text is a front of a page, or of one that is cut off in a face
abbrev pub BeginsPage : List ℕ → Type 0
BeginsPage front = (rest : List ℕ) × (((grid : ℕ) × (items : List Item) × IsPageText (front ++ rest) grid items) ⊎ IsCutPage (front ++ rest))

-- a line, without its line feed
abbrev pub IsLine : List ℕ → Type 0
IsLine line = All (λ c. c ≢ 10) line

-- the lines, each with its line feed
abbrev pub lines_text : List (List ℕ) → List ℕ
lines_text lines = flat_map (λ line. line ++ 10 ∷ []) lines

-- the text is no page, and its line n, from 1, is the first that is not allowed: the lines before it begin a page, and with line
-- n they do not; or the text ends before line n, or within it
pub record IsBadLine (text : List ℕ) (n : ℕ) : Type 0 where
  pub before : List (List ℕ)
  pub rest : List ℕ
  pub cut : text ≡ lines_text before ++ rest
  pub lines : All IsLine before
  pub place : n ≡ length before + 1
  pub begins : BeginsPage (lines_text before)
  pub stops : (line more : List ℕ) → rest ≡ line ++ 10 ∷ more → IsLine line → BeginsPage (lines_text before ++ line ++ 10 ∷ []) → ⊥
  pub no_page : (grid : ℕ) (items : List Item) → IsPageText text grid items → ⊥
