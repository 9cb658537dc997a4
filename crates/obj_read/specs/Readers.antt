-- Readers as what was read.
use Rattle.std.specs.Prelude.{◌≡◌, ℕ, List, [], ◌∷◌, ◌++◌, map, Option, Some, None}
use Rattle.spec_page.specs.Items.{Item}
use Rattle.spec_page.specs.Element.{Element}
use Rattle.plane_core.specs.Views.{point_of}
use Rattle.exact_mesh.specs.Meshes.{numbered_plane}
use Rattle.obj_file.specs.Elements.{element_with}
use Rattle.obj_file.specs.Items.{item_of}
use Rattle.obj_lines.specs.PageLines.{PageLine, line_text, IsLineWithin}
use Rattle.obj_lines.specs.Readings.{IsLineOf}
use Rattle.obj_read.specs.States.{State, step}
use Rattle.obj_read.specs.States as state
use Rattle.obj_read.specs.declared.parts.Page.{Page}
use Rattle.obj_read.specs.declared.parts.Block.{Block}
use Rattle.obj_read.specs.declared.reader.Reader.{Reader}
use Rattle.obj_read.specs.declared.reader.Reader.TheVariants.{Start, Headed, Among, Named, Open, Halved, Faced, Ended}

abbrev pub items_in : Page → List Item
items_in p = map item_of p.items.items

-- the element so far
abbrev pub element_in : Block → Element
element_in b = element_with b.number b.frame b.corners.items b.printed.items b.faces.items None

abbrev pub state_of : Reader → State
state_of Start = state.Start
state_of Headed = state.Headed
state_of (Among p) = state.Among p.grid (items_in p)
state_of (Named p n) = state.Named p.grid (items_in p) n
state_of (Open p b) = state.Open p.grid (items_in p) (element_in b)
state_of (Halved p b c) = state.Halved p.grid (items_in p) (element_in b) (point_of c)
state_of (Faced p b f) = state.Faced p.grid (items_in p) (element_in b) (numbered_plane f.plane) (map numbered_plane f.edges.items)
state_of (Ended p) = state.Ended p.grid (items_in p)

-- what was read, if anything
abbrev pub state_in : Option Reader → Option State
state_in None = None
state_in (Some r) = Some (state_of r)

-- the reader that has read the line with this text too; there is none where no line with this text may follow
abbrev pub IsNext : State → List ℕ → Option Reader → Type 0
IsNext s text (Some r) = (line : PageLine) × IsLineOf text line × (step s line ≡ Some (state_of r))
IsNext s text None = (line : PageLine) → IsLineWithin line → line_text line ≡ text ++ 10 ∷ [] → step s line ≡ None
